-- `values` meets its contract: the places so far are filled.
use mathlib.Core.Path.{◌≡◌}
use Prim.Native.Nat.{◌≤◌, ◌-◌}
use lib.ListN.{length}
use Rattle.run.specs.Vectors.{fill_to}
use Rattle.run.specs.Rows.{rows_in, value_at}
use Rattle.run.proofs.residuals.values.Given as goal

abbrev pub invariant-loop-i : goal.invariant-loop-i
invariant-loop-i l =
    (l.i ≤ l.count) × (length l.out ≡ length l.initial.out)
    × (l.out ≡ fill_to l.initial.out 0 (value_at (rows_in l.xs l.e)) l.i)

abbrev pub decreases-loop-i : goal.decreases-loop-i
decreases-loop-i l = l.count - l.i
