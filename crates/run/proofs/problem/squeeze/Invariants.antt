-- `squeeze` meets its contract: one row more is filled in each turn.
use mathlib.Core.Path.{◌≡◌}
use Prim.Native.Nat.{◌≤◌, ◌-◌}
use lib.ListN.{length}
use Rattle.run.specs.program.Problem.{kept_by, chosen_if}
use Rattle.run.specs.Problem.{variable}
use Rattle.run.specs.Rows.{rows_in, slope_at}
use Rattle.run.specs.Vectors.{fill_rows}
use Rattle.run.proofs.problem.squeeze.Given as goal

abbrev pub invariant-loop-i : goal.invariant-loop-i
invariant-loop-i l =
    (l.i ≤ l.count) × (length l.to ≡ length l.initial.to)
    × (l.to ≡ fill_rows l.initial.to (λ j p. chosen_if l.is_chosen (slope_at (rows_in l.xs l.e) j
    (variable (kept_by l.k l.index) p))) l.k l.i)

abbrev pub decreases-loop-i : goal.decreases-loop-i
decreases-loop-i l = l.count - l.i
