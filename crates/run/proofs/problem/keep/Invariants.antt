-- `keep` meets its contract: the invariant is the definition at the variables passed.
use mathlib.Core.Path.{◌≡◌}
use Prim.Native.Nat.{◌≤◌, ◌-◌}
use lib.ListN.{length}
use Rattle.run.specs.program.Problem.{kept_by}
use Rattle.run.specs.Problem.{kept_to}
use Rattle.run.proofs.problem.keep.Given as goal

abbrev pub invariant-loop-i : goal.invariant-loop-i
invariant-loop-i l =
    (l.i ≤ l.n) × (l.count ≤ l.i) × (length l.index ≡ length l.initial.index)
    × (kept_by l.count l.index ≡ kept_to l.moving l.i)

abbrev pub decreases-loop-i : goal.decreases-loop-i
decreases-loop-i l = l.n - l.i
