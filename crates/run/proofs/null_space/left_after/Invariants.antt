-- `left_after` meets its contract: the slice is the definition's, of the rows of q so far.
use mathlib.Core.Path.{◌≡◌}
use Prim.Native.Nat.{◌≤◌, ◌-◌}
use lib.ListN.{length}
use Rattle.run.specs.NullSpace.{left_after}
use Rattle.run.proofs.null_space.left_after.Given as goal

abbrev pub invariant-loop-t : goal.invariant-loop-t
invariant-loop-t l = (l.t ≤ l.r) × (length l.left ≡ length l.initial.left)
    × (l.left ≡ left_after l.k l.q l.initial.left l.p l.t)

abbrev pub decreases-loop-t : goal.decreases-loop-t
decreases-loop-t l = l.r - l.t
