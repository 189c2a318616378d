-- `two_left_after` meets its contract: both rows are the definition's, of the rows of q so far.
use mathlib.Core.Path.{◌≡◌}
use Prim.Native.Nat.{◌+◌, ◌≤◌, ◌-◌}
use lib.ListN.{length}
use Rattle.run.specs.NullSpace.{left_after}
use Rattle.run.proofs.null_space.two_left_after.Given as goal

abbrev pub invariant-loop-t : goal.invariant-loop-t
invariant-loop-t l = (l.t ≤ l.r) × (length l.left ≡ length l.initial.left)
    × (l.left ≡ left_after l.k l.q (left_after l.k l.q l.initial.left l.p l.t) (l.p + 1) l.t)

abbrev pub decreases-loop-t : goal.decreases-loop-t
decreases-loop-t l = l.r - l.t
