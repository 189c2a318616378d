-- `remainders` meets its contract: the slice is the definition's, of the directions so far, an even number of them, and
-- at the end of one more where k is odd.
use mathlib.Core.Path.{◌≡◌}
use Prim.Native.Nat.{◌*◌, ◌≤◌, ◌-◌}
use lib.ListN.{length}
use Rattle.run.specs.NullSpace.{remainders_to}
use Rattle.run.proofs.null_space.remainders.Given as goal

abbrev pub invariant-loop-h : goal.invariant-loop-h
invariant-loop-h l = (l.h ≤ l.half) × (length l.left ≡ length l.initial.left)
    × (l.left ≡ remainders_to l.k l.r l.q (2 * l.h))

abbrev pub decreases-loop-h : goal.decreases-loop-h
decreases-loop-h l = l.half - l.h
