-- `rows_inside` meets its contract: the bounds are those of the difference so far, and proper, and each place is
-- inside.
use Prim.Native.Nat.{◌≤◌}
use Rattle.linear.specs.Bounds.{scalar_of, Bounding}
use Rattle.linear.specs.Flat.{along}
use Rattle.linear.specs.Dot.{minus_to}
use Rattle.linear.proofs.dots.rows_inside.Given as goal

abbrev pub invariant-loop-t : goal.invariant-loop-t
invariant-loop-t l = (l.t ≤ l.k)
    × Bounding (minus_to (along l.l l.i0 1) (along l.l l.j0 1) (scalar_of l.initial.sum) l.t) l.sum
