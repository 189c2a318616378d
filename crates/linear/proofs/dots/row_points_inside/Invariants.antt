-- `row_points_inside` meets its contract: the bounds are those of the sum so far, and proper, and each place is inside.
use Prim.Native.Nat.{◌≤◌}
use Rattle.linear.specs.Bounds.{Bounding}
use Rattle.linear.specs.Flat.{along}
use Rattle.linear.specs.Dot.{dot_to}
use Rattle.linear.proofs.dots.row_points_inside.Given as goal

abbrev pub invariant-loop-t : goal.invariant-loop-t
invariant-loop-t l = (l.t ≤ l.k) × Bounding (dot_to (along l.a l.a0 1) (along l.b l.b0 1) l.t) l.sum
