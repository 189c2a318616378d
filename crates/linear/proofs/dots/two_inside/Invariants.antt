-- `two_inside` meets its contract: from where the points end the bounds are those of both sums so far.
use Prim.Native.Nat.{◌≤◌}
use Rattle.linear.specs.Flat.{along}
use Rattle.linear.proofs.SumBounds.{GoneOn}
use Rattle.linear.proofs.dots.two_inside.Given as goal

abbrev pub invariant-loop-t : goal.invariant-loop-t
invariant-loop-t l = (l.t ≤ l.k) × GoneOn (along l.a l.a0 l.sa) (along l.b l.b0 1) l.done l.initial.first l.t l.first
    × GoneOn (along l.a l.a1 l.sa)
    (along l.b l.b0 1) l.done l.initial.second l.t l.second
