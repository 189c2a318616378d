-- `learned` meets its contract: no entry so far was learned, and one that was settles it.
use mathlib.Core.Bool.{Bool, false, not, ◌||◌}
use mathlib.Core.List.{List}
use mathlib.Core.Path.{◌≡◌}
use Prim.Native.Nat.{ℕ, ◌≤◌, ◌-◌}
use lib.Ieee.{Float}
use Rattle.interval.specs.Scalar.{zero_s, is_sharp, definitely_not_equal}
use Rattle.linear.specs.Flat.{at}
use Rattle.run.specs.Vectors.{any_to}
use Rattle.run.proofs.curvature.learned.Given as goal

abbrev pub bent : List Float → ℕ → Bool
bent b p = not (is_sharp (at b p)) || definitely_not_equal (at b p) zero_s

abbrev pub invariant-loop-p : goal.invariant-loop-p
invariant-loop-p l = (l.p ≤ l.q) × (any_to (bent l.b) l.p ≡ false)

abbrev pub decreases-loop-p : goal.decreases-loop-p
decreases-loop-p l = l.q - l.p
