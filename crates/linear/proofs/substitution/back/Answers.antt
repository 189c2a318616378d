-- `back` meets its contract: the invariant is the fold at the rows passed, not refused.
use borrow.Author.Rules.{rules}
use Rattle.linear.specs.Results.{fold_r}
use Rattle.linear.proofs.Turns.{went_on, broke_off}
use Rattle.linear.proofs.substitution.back.Goals as goal

pub loop-t-init : goal.loop-t-init
unfolding fold_r
loop-t-init c = search rules

pub returns-in_err-back_row : goal.returns-in_err-back_row
returns-in_err-back_row c =
    broke_off _ _ _ _ c.loop-t-test.true c.loop-t.invariant.2 c.back_row.ensures c.in_err-back_row.was
    c.from_residual.ensures.1

pub loop-t-preserved : goal.loop-t-preserved
loop-t-preserved c = (
  search rules,
  search rules,
  went_on _ _ c.loop-t.invariant.2 c.back_row.ensures c.in_ok-back_row.was,
)
