-- `damped` meets its contract: the rows are filled from a clear matrix, one more in each turn.
use mathlib.Core.Path.{◌≡◌}
use Prim.Native.Nat.{◌≤◌, ◌-◌, ◌+◌, ◌*◌}
use lib.ListN.{length}
use Rattle.linear.specs.Flat.{at}
use Rattle.run.specs.program.Problem.{damped_entry}
use Rattle.run.specs.Vectors.{matrix, fill_rows}
use Rattle.run.proofs.problem.damped.Given as goal

abbrev pub invariant-loop-i : goal.invariant-loop-i
invariant-loop-i l = (l.i ≤ l.k) × (length l.h ≡ length l.initial.h) ×
    (l.h ≡ fill_rows matrix
    (λ t j. damped_entry (at l.undamped (12 * t + j)) (at l.undamped (144 + t)) l.mu t j) l.k l.i)

abbrev pub decreases-loop-i : goal.decreases-loop-i
decreases-loop-i l = l.k - l.i
