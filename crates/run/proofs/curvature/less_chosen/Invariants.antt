-- `less_chosen` meets its contract: the vector is filled so far.
use mathlib.Core.List.{List}
use mathlib.Core.Path.{◌≡◌}
use Prim.Native.Nat.{ℕ, ◌≤◌, ◌-◌}
use lib.Ieee.{Float}
use lib.ListN.{length}
use Rattle.interval.specs.declared.Scalar.{Scalar}
use Rattle.interval.specs.Scalar.{sub_of}
use Rattle.linear.specs.Choose.{choose_of}
use Rattle.linear.specs.Flat.{at}
use Rattle.run.specs.Vectors.{vector, fill_to}
use Rattle.run.proofs.curvature.less_chosen.Given as goal

abbrev pub difference : List Float → List Float → ℕ → Scalar
difference y bs i = choose_of (sub_of (at y i) (at bs i))

abbrev pub invariant-loop-i : goal.invariant-loop-i
invariant-loop-i l = (l.i ≤ l.n) × (length l.v ≡ length l.initial.v)
    × (l.v ≡ fill_to vector 0 (difference l.y l.bs) l.i)

abbrev pub decreases-loop-i : goal.decreases-loop-i
decreases-loop-i l = l.n - l.i
