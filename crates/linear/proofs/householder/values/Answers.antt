-- `values` meets its contract: the invariant is the fold at the values found, not refused.
use borrow.Author.Rules.{rules}
use Rattle.linear.specs.Results.{fold_r}
use Rattle.linear.proofs.Turns.{went_on, broke_off}
use Rattle.linear.proofs.householder.values.Goals as goal

pub loop-t-init : goal.loop-t-init
unfolding fold_r
loop-t-init c = search rules

pub returns-in_err-value_row : goal.returns-in_err-value_row
returns-in_err-value_row c =
    broke_off _ _ _ _ c.loop-t-test.true c.loop-t.invariant.2 c.value_row.ensures c.in_err-value_row.was
    c.from_residual.ensures.1

pub loop-t-preserved : goal.loop-t-preserved
loop-t-preserved c =
    let l = c.loop-t in
    (search rules, search rules, went_on _ _ l.invariant.2 c.value_row.ensures c.in_ok-value_row.was)
