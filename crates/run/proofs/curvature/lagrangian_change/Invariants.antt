-- `lagrangian_change` meets its contract: the sum's new values, chosen, into a clear array, and then the vector is
-- filled so far.
use mathlib.Core.Path.{◌≡◌}
use Prim.Native.Nat.{◌≤◌, ◌-◌}
use lib.ListN.{length}
use Rattle.run.specs.Vectors.{vector, fill_to}
use Rattle.run.specs.Rows.{evaluation_of}
use Rattle.run.specs.Curvature.{lagrangian_change_at}
use Rattle.run.proofs.curvature.lagrangian_change.Given as goal

abbrev pub invariant-loop-j : goal.invariant-loop-j
invariant-loop-j l = (l.j ≤ l.n) × (length l.y ≡ length l.initial.y) ×
    (l.y ≡ fill_to vector 0
    (lagrangian_change_at (evaluation_of l.c l.xs) (evaluation_of l.d l.next) l.lambda l.values) l.j)

abbrev pub decreases-loop-j : goal.decreases-loop-j
decreases-loop-j l = l.n - l.j
