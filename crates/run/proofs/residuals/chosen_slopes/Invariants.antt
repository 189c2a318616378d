-- `chosen_slopes` meets its contract: the places so far are filled.
use mathlib.Core.Path.{◌≡◌}
use Prim.Native.Nat.{◌≤◌, ◌-◌}
use lib.ListN.{length}
use Rattle.run.specs.Vectors.{chosen_of}
use Rattle.run.proofs.residuals.chosen_slopes.Given as goal

abbrev pub invariant-loop-p : goal.invariant-loop-p
invariant-loop-p l =
    (l.p ≤ l.count) × (length l.out ≡ length l.initial.out) × (l.out ≡ chosen_of l.initial.out l.xs l.e.slopes l.p)

abbrev pub decreases-loop-p : goal.decreases-loop-p
decreases-loop-p l = l.count - l.p
