-- `cut` meets its contract: the first places are filled, and the place that is read is still as it was.
use mathlib.Core.Path.{◌≡◌}
use Prim.Native.Nat.{◌≤◌, ◌-◌}
use lib.ListN.{length}
use Rattle.interval.specs.Scalar.{mul_of}
use Rattle.linear.specs.Choose.{choose_of}
use Rattle.linear.specs.Flat.{at}
use Rattle.run.specs.Vectors.{fill_to}
use Rattle.run.proofs.radius.cut.Given as goal

abbrev pub invariant-loop-i : goal.invariant-loop-i
invariant-loop-i l = (l.i ≤ l.n) × (length l.delta ≡ length l.initial.delta)
    × (l.delta ≡ fill_to l.initial.delta 0 (λ j. choose_of (mul_of (at l.initial.delta j) l.shrink)) l.i)

abbrev pub decreases-loop-i : goal.decreases-loop-i
decreases-loop-i l = l.n - l.i
