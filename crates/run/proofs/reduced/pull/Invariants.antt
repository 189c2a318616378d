-- `pull` meets its contract: the first places hold the definition's, and the rest are clear.
use mathlib.Core.Path.{◌≡◌}
use Prim.Native.Nat.{◌≤◌, ◌-◌}
use lib.ListN.{length}
use Rattle.interval.specs.Scalar.{add_of, neg_of}
use Rattle.linear.specs.Choose.{choose_of}
use Rattle.linear.specs.Flat.{at}
use Rattle.run.specs.Vectors.{vector, fill_to}
use Rattle.run.specs.Reduced.{h_times_at}
use Rattle.run.specs.program.Reduced.{curved}
use Rattle.run.proofs.reduced.pull.Given as goal

abbrev pub invariant-loop-i : goal.invariant-loop-i
invariant-loop-i l = (l.i ≤ l.k) × (length l.out ≡ length l.initial.out)
    × (l.out ≡ fill_to vector 0 (λ j. choose_of (neg_of (add_of (at l.g j)
    (h_times_at (curved l.k l.h l.g) (at l.v) j)))) l.i)

abbrev pub decreases-loop-i : goal.decreases-loop-i
decreases-loop-i l = l.k - l.i
