-- `without` meets its contract: the slice is the definition's, of the remainders so far: an even number of them, and at
-- the end one more where k is odd.
use mathlib.Core.Path.{◌≡◌}
use Prim.Native.Nat.{◌*◌, ◌≤◌, ◌-◌}
use lib.ListN.{length}
use Rattle.run.specs.NullSpace.{without_to}
use Rattle.run.proofs.null_space.without.Given as goal

abbrev pub invariant-loop-h : goal.invariant-loop-h
invariant-loop-h l = (l.h ≤ l.half) × (length l.left ≡ length l.initial.left)
    × (l.left ≡ without_to l.k l.z l.t l.initial.left (2 * l.h))

abbrev pub decreases-loop-h : goal.decreases-loop-h
decreases-loop-h l = l.half - l.h
