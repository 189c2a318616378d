-- `largest` meets its contract: the bounds are those of the greatest size so far.
use Prim.Native.Nat.{◌≤◌}
use Rattle.linear.specs.Flat.{at}
use Rattle.linear.proofs.LargestEnds.{Largest}
use Rattle.linear.proofs.norms.largest.Given as goal

abbrev pub invariant-loop-i : goal.invariant-loop-i
invariant-loop-i l = (l.i ≤ l.n) × Largest (at l.v) l.i l.below l.above
