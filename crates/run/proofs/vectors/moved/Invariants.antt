-- `moved` meets its contract: the vector is filled so far.
use mathlib.Core.Path.{◌≡◌}
use Prim.Native.Nat.{◌≤◌, ◌-◌}
use lib.ListN.{length}
use Rattle.run.specs.Vectors.{vector, fill_to}
use Rattle.run.proofs.PointLaws.{sharp_sum}
use Rattle.run.proofs.vectors.moved.Given as goal

abbrev pub invariant-loop-i : goal.invariant-loop-i
invariant-loop-i l = (l.i ≤ l.n) × (length l.out ≡ 24) × (l.out ≡ fill_to vector 0 (sharp_sum l.x l.d) l.i)

abbrev pub decreases-loop-i : goal.decreases-loop-i
decreases-loop-i l = l.n - l.i
