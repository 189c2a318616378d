-- `shifted_step` meets its contract: the step is filled so far, and read where it is not.
use mathlib.Core.Path.{◌≡◌}
use Prim.Native.Nat.{◌≤◌, ◌-◌}
use lib.ListN.{length}
use Rattle.run.specs.Vectors.{fill_to}
use Rattle.run.proofs.PointLaws.{sharp_sum}
use Rattle.run.proofs.corrected.shifted_step.Given as goal

abbrev pub invariant-loop-i : goal.invariant-loop-i
invariant-loop-i l = (l.i ≤ l.n) × (length l.step ≡ length l.initial.step)
    × (l.step ≡ fill_to l.initial.step 0 (sharp_sum l.initial.step l.d) l.i)

abbrev pub decreases-loop-i : goal.decreases-loop-i
decreases-loop-i l = l.n - l.i
