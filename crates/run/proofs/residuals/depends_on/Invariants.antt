-- `depends_on` meets its contract: no slope so far is definitely not zero.
use mathlib.Core.Path.{◌≡◌}
use mathlib.Core.Bool.{false}
use Prim.Native.Nat.{◌≤◌, ◌-◌}
use Rattle.interval.specs.Scalar.{zero_s, definitely_not_equal}
use Rattle.run.specs.Vectors.{any_to}
use Rattle.run.specs.Rows.{rows_in, slope_at}
use Rattle.run.proofs.residuals.depends_on.Given as goal

abbrev pub invariant-loop-i : goal.invariant-loop-i
invariant-loop-i l = (l.i ≤ l.count)
    × (any_to (λ i. definitely_not_equal (slope_at (rows_in l.xs l.e) i l.j) zero_s) l.i ≡ false)

abbrev pub decreases-loop-i : goal.decreases-loop-i
decreases-loop-i l = l.count - l.i
