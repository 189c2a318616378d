-- `chosen_values` meets its contract: the places so far are filled.
use mathlib.Core.Path.{◌≡◌}
use Prim.Native.Nat.{◌≤◌, ◌-◌}
use lib.ListN.{length}
use Rattle.run.specs.Vectors.{chosen_of}
use Rattle.run.proofs.residuals.chosen_values.Given as goal

abbrev pub invariant-loop-i : goal.invariant-loop-i
invariant-loop-i l =
    (l.i ≤ l.count) × (length l.out ≡ length l.initial.out) × (l.out ≡ chosen_of l.initial.out l.xs l.e.values l.i)

abbrev pub decreases-loop-i : goal.decreases-loop-i
decreases-loop-i l = l.count - l.i
