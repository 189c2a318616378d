-- `forward` meets its contract: the invariant is the fold at the rows passed, not refused.
use borrow.Author.Rules.{rules}
use Rattle.linear.specs.Results.{fold_r}
use Rattle.linear.proofs.Turns.{went_on, broke_off}
use Rattle.linear.proofs.substitution.forward.Goals as goal

pub loop-i-init : goal.loop-i-init
unfolding fold_r
loop-i-init c = search rules

pub returns-in_err-forward_row : goal.returns-in_err-forward_row
returns-in_err-forward_row c =
    broke_off _ _ _ _ c.loop-i-test.true c.loop-i.invariant.2 c.forward_row.ensures c.in_err-forward_row.was
    c.from_residual.ensures.1

pub loop-i-preserved : goal.loop-i-preserved
loop-i-preserved c = (
  search rules,
  search rules,
  went_on _ _ c.loop-i.invariant.2 c.forward_row.ensures c.in_ok-forward_row.was,
)
