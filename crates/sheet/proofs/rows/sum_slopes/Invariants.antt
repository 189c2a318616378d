-- `sum_slopes` meets its contract: the places so far are filled.
use mathlib.Core.Path.{◌≡◌}
use Prim.Native.Nat.{◌*◌, ◌/◌, ◌%◌, ◌≤◌, ◌-◌}
use lib.Dec.{eqb}
use lib.ListN.{length}
use Rattle.interval.specs.Scalar.{zero_s, pick}
use Rattle.linear.specs.Flat.{fill_to}
use Rattle.sheet.specs.Rows.{one_s}
use Rattle.sheet.proofs.rows.sum_slopes.Given as goal

abbrev pub invariant-loop-p : goal.invariant-loop-p
invariant-loop-p l = (l.p ≤ l.n * l.n) × (length l.rows ≡ length l.initial.rows)
    × (l.rows ≡ fill_to l.initial.rows l.base (λ q. pick (eqb (q / l.n) (q % l.n)) one_s zero_s) l.p)

abbrev pub decreases-loop-p : goal.decreases-loop-p
decreases-loop-p l = l.n * l.n - l.p
