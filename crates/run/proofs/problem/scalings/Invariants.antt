-- `scalings` meets its contract: one place more is filled in each turn.
use mathlib.Core.Path.{◌≡◌}
use Prim.Native.Nat.{◌≤◌, ◌-◌}
use lib.ListN.{length}
use Rattle.run.specs.Problem.{scaling_at}
use Rattle.run.specs.Vectors.{fill_to}
use Rattle.run.proofs.problem.scalings.Given as goal

abbrev pub invariant-loop-i : goal.invariant-loop-i
invariant-loop-i l =
    (l.i ≤ l.k) × (length l.undamped ≡ length l.initial.undamped)
    × (l.undamped ≡ fill_to l.initial.undamped 144 (scaling_at l.jr l.s l.jc l.m) l.i)

abbrev pub decreases-loop-i : goal.decreases-loop-i
decreases-loop-i l = l.k - l.i
