-- `multipliers_by_row` meets its contract: the invariant is the fold at the vectors passed, not refused.
use borrow.Author.Rules.{rules}
use Rattle.linear.specs.Results.{fold_r}
use Rattle.linear.proofs.Turns.{went_on, broke_off}
use Rattle.run.proofs.basis.multipliers_by_row.Goals as goal

pub loop-u-init : goal.loop-u-init
unfolding fold_r
loop-u-init c = search rules

pub returns-in_err-multiplier : goal.returns-in_err-multiplier
returns-in_err-multiplier c =
    broke_off _ _ _ _ c.loop-u-test.true
    c.loop-u.invariant.2
    c.multiplier.ensures c.in_err-multiplier.was c.from_residual.ensures.1

pub loop-u-preserved : goal.loop-u-preserved
loop-u-preserved c = (
  search rules,
  search rules,
  went_on _ _ c.loop-u.invariant.2
      c.multiplier.ensures c.in_ok-multiplier.was,
)
