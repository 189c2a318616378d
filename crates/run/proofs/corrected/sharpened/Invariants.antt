-- `sharpened` meets its contract: the vector is filled so far.
use mathlib.Core.List.{List}
use mathlib.Core.Path.{◌≡◌}
use Prim.Native.Nat.{ℕ, ◌≤◌, ◌-◌}
use lib.Ieee.{Float}
use lib.ListN.{length}
use Rattle.interval.specs.declared.Scalar.{Scalar}
use Rattle.interval.specs.Scalar.{sharpen}
use Rattle.linear.specs.Flat.{at}
use Rattle.run.specs.Vectors.{vector, fill_to}
use Rattle.run.proofs.corrected.sharpened.Given as goal

abbrev pub sharp : List Float → ℕ → Scalar
sharp from i = sharpen (at from i)

abbrev pub invariant-loop-i : goal.invariant-loop-i
invariant-loop-i l = (l.i ≤ l.n) × (length l.to ≡ 24) × (l.to ≡ fill_to vector 0 (sharp l.from) l.i)

abbrev pub decreases-loop-i : goal.decreases-loop-i
decreases-loop-i l = l.n - l.i
