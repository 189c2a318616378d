-- `two_points_inside` meets its contract: the bounds are those of both sums so far, and each place is inside.
use Prim.Native.Nat.{◌≤◌}
use Rattle.linear.specs.Bounds.{scalar_of, Bounding}
use Rattle.linear.specs.Flat.{along, scalars_at}
use Rattle.linear.specs.Dot.{plus_to}
use Rattle.linear.proofs.dots.two_points_inside.Given as goal

abbrev pub invariant-loop-t : goal.invariant-loop-t
invariant-loop-t l = (l.t ≤ l.k)
    × Bounding (plus_to (scalars_at l.a l.i) (along l.b l.b0 1) (scalar_of l.initial.first) l.t) l.first
    × Bounding (plus_to (scalars_at l.a l.j) (along l.b l.b0 1) (scalar_of l.initial.second) l.t) l.second
