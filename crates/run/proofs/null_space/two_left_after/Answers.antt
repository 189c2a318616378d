-- `two_left_after` meets its contract: both rows are the definition's, of the rows of q so far.
use borrow.Author.Rules.{rules}
use Rattle.run.specs.NullSpace.{left_after}
use Rattle.run.proofs.TwoRows.{two_after}
use Rattle.run.proofs.null_space.two_left_after.Goals as goal

pub loop-t-init : goal.loop-t-init
unfolding left_after
loop-t-init c = search rules

pub loop-t-preserved : goal.loop-t-preserved
loop-t-preserved c =
    let l = c.loop-t in (
      search rules,
      search rules,
      two_after _ _ _ _ l.t c.requires.0 l.invariant.2 c.two_parts_off.ensures,
    )
