-- `moving` meets its contract: the marks so far are set, and the others are clear.
use native.Mathlib.Nat.{le_antisymm}
use Rattle.run.specs.Residuals.{moving_of}
use Rattle.run.proofs.RowLaws.{marked_all}
use Rattle.run.proofs.residuals.moving.Goals as goal

pub returns : goal.returns
unfolding moving_of
returns c =
    let l = c.loop-j in
    marked_all _ _ _ (rw (le_antisymm l.invariant.0 c.loop-j-test.false) at l.invariant.1)
