-- `h_times_row` meets its contract: the row holds the products so far, an even number of them, and at the end one more
-- where k is odd.
use mathlib.Core.Path.{◌≡◌}
use Prim.Native.Nat.{◌*◌, ◌≤◌, ◌-◌}
use lib.ListN.{length}
use Rattle.linear.specs.Choose.{choose_of}
use Rattle.linear.specs.Dot.{dot_to}
use Rattle.run.specs.Vectors.{row, fill_to}
use Rattle.run.proofs.reduced.h_times_row.Given as goal

abbrev pub invariant-loop-p : goal.invariant-loop-p
invariant-loop-p l = (l.p ≤ l.half) × (length l.hz ≡ length l.initial.hz)
    × (l.hz ≡ fill_to l.initial.hz (12 * l.t) (λ j. choose_of (dot_to (row l.h j) (row l.z l.t) l.k))
    (2 * l.p))

abbrev pub decreases-loop-p : goal.decreases-loop-p
decreases-loop-p l = l.half - l.p
