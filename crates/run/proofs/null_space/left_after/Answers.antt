-- `left_after` meets its contract: the slice is the definition's, of the rows of q so far.
use mathlib.Core.Path.{◌∙◌}
use borrow.Author.Rules.{rules}
use Rattle.run.specs.NullSpace.{left_after}
use Rattle.run.proofs.NullSpaceLaws.{after_turn}
use Rattle.run.proofs.null_space.left_after.Goals as goal

pub loop-t-init : goal.loop-t-init
unfolding left_after
loop-t-init c = search rules

pub loop-t-preserved : goal.loop-t-preserved
loop-t-preserved c =
    let l = c.loop-t in
    (search rules, search rules, c.part_off.ensures ∙ after_turn _ _ _ _ l.t l.invariant.2)
