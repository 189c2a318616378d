-- `fill_undamped` meets its contract: the rows are filled from a clear slice, one more in each turn.
use mathlib.Core.Path.{◌≡◌}
use Prim.Native.Nat.{◌≤◌, ◌-◌}
use lib.ListN.{length}
use Rattle.linear.specs.Flat.{zeros}
use Rattle.run.specs.program.Problem.{undamped_between}
use Rattle.run.specs.Vectors.{fill_rows}
use Rattle.run.proofs.problem.fill_undamped.Given as goal

abbrev pub invariant-loop-i : goal.invariant-loop-i
invariant-loop-i l = (l.i ≤ l.k) × (length l.undamped ≡ length l.initial.undamped) ×
    (l.undamped ≡ fill_rows (zeros 336) (undamped_between l.n l.index l.jr l.s l.b) l.k l.i)

abbrev pub decreases-loop-i : goal.decreases-loop-i
decreases-loop-i l = l.k - l.i
