-- `plus_inside` meets its contract: from where the points end the bounds are those of the sum so far, and proper, and
-- each place is inside.
use Prim.Native.Nat.{◌≤◌}
use Rattle.interval.specs.declared.Scalar.{Scalar}
use Rattle.linear.specs.Bounds.{Bounding}
use Rattle.linear.specs.Flat.{scalars_at}
use Rattle.linear.specs.Dot.{plus_to}
use Rattle.linear.proofs.dots.plus_inside.Given as goal

abbrev pub invariant-loop-t : goal.invariant-loop-t
invariant-loop-t l = (l.t ≤ l.k)
    × ((z : Scalar) → Bounding (plus_to (scalars_at l.a l.i) (scalars_at l.b l.j) z l.done) l.initial.sum
    → Bounding (plus_to (scalars_at l.a l.i) (scalars_at l.b l.j) z l.t) l.sum)
