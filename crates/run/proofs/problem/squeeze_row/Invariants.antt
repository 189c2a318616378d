-- `squeeze_row` meets its contract: one place more is filled in each turn.
use mathlib.Core.Path.{◌≡◌}
use Prim.Native.Nat.{◌≤◌, ◌-◌}
use lib.ListN.{length, get_or}
use Rattle.run.specs.program.Problem.{chosen_if}
use Rattle.run.specs.Rows.{rows_in, slope_at}
use Rattle.run.specs.Vectors.{fill_to}
use Rattle.run.proofs.problem.squeeze_row.Given as goal

abbrev pub invariant-loop-p : goal.invariant-loop-p
invariant-loop-p l =
    (l.p ≤ l.k) × (length l.to ≡ length l.initial.to)
    × (l.to ≡ fill_to l.initial.to l.t0 (λ j. chosen_if l.is_chosen (slope_at (rows_in l.xs l.e) l.i
    (get_or l.index j 0))) l.p)

abbrev pub decreases-loop-p : goal.decreases-loop-p
decreases-loop-p l = l.k - l.p
