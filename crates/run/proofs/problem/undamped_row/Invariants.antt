-- `undamped_row` meets its contract: one place more is filled in each turn.
use mathlib.Core.Path.{◌≡◌}
use Prim.Native.Nat.{◌*◌, ◌≤◌, ◌-◌}
use lib.ListN.{length}
use Rattle.run.specs.program.Problem.{undamped_between}
use Rattle.run.specs.Vectors.{fill_to}
use Rattle.run.proofs.problem.undamped_row.Given as goal

abbrev pub invariant-loop-j : goal.invariant-loop-j
invariant-loop-j l =
    (l.j ≤ l.k) × (length l.h ≡ length l.initial.h)
    × (l.h ≡ fill_to l.initial.h (12 * l.i) (undamped_between l.n l.index l.jr l.s l.b l.i) l.j)

abbrev pub decreases-loop-j : goal.decreases-loop-j
decreases-loop-j l = l.k - l.j
