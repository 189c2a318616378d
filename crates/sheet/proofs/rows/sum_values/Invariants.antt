-- `sum_values` meets its contract: the places so far are filled.
use mathlib.Core.Path.{◌≡◌}
use Prim.Native.Nat.{◌≤◌, ◌-◌}
use lib.ListN.{length}
use Rattle.interval.specs.Scalar.{sub_of}
use Rattle.linear.specs.Flat.{at, fill_to}
use Rattle.sheet.proofs.rows.sum_values.Given as goal

abbrev pub invariant-loop-i : goal.invariant-loop-i
invariant-loop-i l = (l.i ≤ l.n) × (length l.rows ≡ length l.initial.rows) × (l.rows ≡ fill_to l.initial.rows l.base (λ j. sub_of (at l.x j) (at l.aims j)) l.i)

abbrev pub decreases-loop-i : goal.decreases-loop-i
decreases-loop-i l = l.n - l.i
