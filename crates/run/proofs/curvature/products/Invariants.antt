-- `products` meets its contract: the slice is filled so far.
use mathlib.Core.List.{List}
use mathlib.Core.Path.{◌≡◌}
use Prim.Native.Nat.{ℕ, ◌*◌, ◌≤◌, ◌-◌}
use lib.Ieee.{Float}
use lib.ListN.{length}
use Rattle.interval.specs.declared.Scalar.{Scalar}
use Rattle.linear.specs.Flat.{at, along}
use Rattle.linear.specs.Dot.{dot_to}
use Rattle.run.specs.Vectors.{fill_to}
use Rattle.run.proofs.curvature.products.Given as goal

abbrev pub product : ℕ → List Float → List Float → ℕ → Scalar
product n rows v i = dot_to (along rows (i * n) 1) (at v) n

abbrev pub invariant-loop-i : goal.invariant-loop-i
invariant-loop-i l = (l.i ≤ l.k) × (length l.out ≡ length l.initial.out)
    × (l.out ≡ fill_to l.initial.out 0 (product l.n l.rows l.v) l.i)

abbrev pub decreases-loop-i : goal.decreases-loop-i
decreases-loop-i l = l.k - l.i
