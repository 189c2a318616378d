-- `plus_points_inside` meets its contract: the bounds are those of the sum so far, and proper, all pairs so far are
-- points, and each place is inside.
use mathlib.Core.Path.{◌≡◌}
use Prim.Native.Nat.{◌≤◌, ◌-◌}
use Rattle.linear.specs.Bounds.{scalar_of, Bounding}
use Rattle.linear.specs.Flat.{scalars_at}
use Rattle.linear.specs.Dot.{plus_to, points_from}
use Rattle.linear.proofs.dots.plus_points_inside.Given as goal

abbrev pub invariant-loop-t : goal.invariant-loop-t
invariant-loop-t l = (l.t ≤ l.k)
    × (points_from (scalars_at l.a l.i) (scalars_at l.b l.j) l.t (l.k - l.t) ≡ points_from (scalars_at l.a l.i)
    (scalars_at l.b l.j) 0 l.k)
    × Bounding (plus_to (scalars_at l.a l.i) (scalars_at l.b l.j) (scalar_of l.initial.sum) l.t) l.sum
