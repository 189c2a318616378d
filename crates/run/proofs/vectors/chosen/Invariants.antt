-- `chosen` meets its contract: the places so far are filled.
use mathlib.Core.Path.{◌≡◌}
use Prim.Native.Nat.{◌≤◌, ◌-◌}
use lib.ListN.{length}
use Rattle.run.specs.Vectors.{chosen_of}
use Rattle.run.proofs.vectors.chosen.Given as goal

abbrev pub invariant-loop-i : goal.invariant-loop-i
invariant-loop-i l = (l.i ≤ l.k) × (length l.to ≡ length l.initial.to) × (l.to ≡ chosen_of l.initial.to l.xs l.base l.i)

abbrev pub decreases-loop-i : goal.decreases-loop-i
decreases-loop-i l = l.k - l.i
