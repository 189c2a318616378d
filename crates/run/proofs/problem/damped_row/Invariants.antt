-- `damped_row` meets its contract: one place more is filled in each turn.
use mathlib.Core.Path.{◌≡◌}
use Prim.Native.Nat.{◌≤◌, ◌-◌, ◌+◌, ◌*◌}
use lib.ListN.{length}
use Rattle.linear.specs.Flat.{at}
use Rattle.run.specs.program.Problem.{damped_entry}
use Rattle.run.specs.Vectors.{fill_to}
use Rattle.run.proofs.problem.damped_row.Given as goal

abbrev pub invariant-loop-j : goal.invariant-loop-j
invariant-loop-j l = (l.j ≤ l.k) × (length l.h ≡ length l.initial.h) ×
    (l.h ≡ fill_to l.initial.h (12 * l.i)
    (λ t. damped_entry (at l.undamped (12 * l.i + t)) (at l.undamped (144 + l.i)) l.mu l.i t) l.j)

abbrev pub decreases-loop-j : goal.decreases-loop-j
decreases-loop-j l = l.k - l.j
