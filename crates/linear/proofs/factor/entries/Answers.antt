-- `entries` meets its contract: the invariant is the fold at the columns passed, not refused.
use borrow.Author.Rules.{rules}
use Rattle.linear.specs.Results.{fold_r}
use Rattle.linear.proofs.Turns.{went_on, broke_off}
use Rattle.linear.proofs.factor.entries.Goals as goal

pub loop-j-init : goal.loop-j-init
unfolding fold_r
loop-j-init c = search rules

pub returns-in_err-entry : goal.returns-in_err-entry
returns-in_err-entry c =
    broke_off _ _ _ _ c.loop-j-test.true c.loop-j.invariant.2 c.entry.ensures c.in_err-entry.was
    c.from_residual.ensures.1

pub loop-j-preserved : goal.loop-j-preserved
loop-j-preserved c = (
  search rules,
  search rules,
  went_on _ _ c.loop-j.invariant.2 c.entry.ensures c.in_ok-entry.was,
)
