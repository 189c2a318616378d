-- `combine` meets its contract: the rows so far are added.
use mathlib.Core.Path.{◌≡◌}
use Prim.Native.Nat.{◌≤◌, ◌-◌}
use lib.ListN.{length}
use Rattle.run.specs.Vectors.{combined_to}
use Rattle.run.proofs.vectors.combine.Given as goal

abbrev pub invariant-loop-t : goal.invariant-loop-t
invariant-loop-t l = (l.t ≤ l.count) × (length l.d ≡ length l.initial.d)
    × (l.d ≡ combined_to l.k l.weights l.rows l.initial.d l.t)

abbrev pub decreases-loop-t : goal.decreases-loop-t
decreases-loop-t l = l.count - l.t
