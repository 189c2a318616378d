-- `gram_entries` meets its contract: the invariant is the fold at the entries passed, not refused.
use borrow.Author.Rules.{rules}
use Rattle.linear.specs.Results.{fold_r}
use Rattle.linear.proofs.Turns.{went_on, broke_off}
use Rattle.run.proofs.basis.gram_entries.Goals as goal

pub loop-j-init : goal.loop-j-init
unfolding fold_r
loop-j-init c = search rules

pub returns-in_err-gram_entry : goal.returns-in_err-gram_entry
returns-in_err-gram_entry c =
    broke_off _ _ _ _ c.loop-j-test.true
    c.loop-j.invariant.2
    c.gram_entry.ensures c.in_err-gram_entry.was c.from_residual.ensures.1

pub loop-j-preserved : goal.loop-j-preserved
loop-j-preserved c = (
  search rules,
  search rules,
  went_on _ _ c.loop-j.invariant.2
      c.gram_entry.ensures c.in_ok-gram_entry.was,
)
