-- `same` meets its contract: all variables so far are not told apart, and one that is settles it.
use mathlib.Core.Bool.{Bool, true}
use mathlib.Core.List.{List}
use mathlib.Core.Path.{◌≡◌}
use Prim.Native.Nat.{ℕ, ◌≤◌, ◌-◌}
use lib.Ieee.{Float}
use Rattle.interval.specs.Scalar.{could_be_equal}
use Rattle.linear.specs.Flat.{at}
use Rattle.run.specs.Vectors.{all_to}
use Rattle.run.proofs.vectors.same.Given as goal

abbrev pub alike : (a b : List Float) → ℕ → Bool
alike a b i = could_be_equal (at a i) (at b i)

abbrev pub invariant-loop-i : goal.invariant-loop-i
invariant-loop-i l = (l.i ≤ l.n) × (all_to (alike l.a l.b) l.i ≡ true)

abbrev pub decreases-loop-i : goal.decreases-loop-i
decreases-loop-i l = l.n - l.i
