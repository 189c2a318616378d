-- `h_times_rows` meets its contract: the first rows hold the products, and the rest are clear.
use mathlib.Core.Path.{◌≡◌}
use Prim.Native.Nat.{◌≤◌, ◌-◌}
use lib.ListN.{length}
use Rattle.linear.specs.Choose.{choose_of}
use Rattle.linear.specs.Dot.{dot_to}
use Rattle.run.specs.Vectors.{matrix, row, fill_rows}
use Rattle.run.proofs.reduced.h_times_rows.Given as goal

abbrev pub invariant-loop-t : goal.invariant-loop-t
invariant-loop-t l = (l.t ≤ l.count) × (length l.hz ≡ length l.initial.hz)
    × (l.hz ≡ fill_rows matrix (λ s i. choose_of (dot_to (row l.h i) (row l.z s) l.k)) l.k l.t)

abbrev pub decreases-loop-t : goal.decreases-loop-t
decreases-loop-t l = l.count - l.t
