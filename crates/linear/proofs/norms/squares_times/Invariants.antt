-- `squares_times` meets its contract: the bounds are those of the squares so far, and proper.
use Prim.Native.Nat.{◌≤◌}
use Rattle.linear.specs.Flat.{at}
use Rattle.linear.specs.Dot.{dot_to}
use Rattle.linear.specs.Norm.{times}
use Rattle.linear.specs.Bounds.{Bounding}
use Rattle.linear.proofs.norms.squares_times.Given as goal

abbrev pub invariant-loop-j : goal.invariant-loop-j
invariant-loop-j l = (l.j ≤ l.n) × Bounding (dot_to (times (at l.v) l.i) (times (at l.v) l.i) l.j) l.sum
