-- `plus_cut` meets its contract: the sum is that of the products so far, and each place is its run's, or outside the
-- slice.
use mathlib.Core.Path.{◌≡◌}
use Prim.Native.Nat.{◌+◌, ◌*◌, ◌≤◌}
use lib.ListN.{length}
use Rattle.linear.specs.Flat.{scalars_at}
use Rattle.linear.specs.Dot.{plus_to}
use Rattle.linear.proofs.Walks.{Cut}
use Rattle.linear.proofs.dots.plus_cut.Given as goal

abbrev pub invariant-loop : goal.invariant-loop
invariant-loop l = (l.counter ≤ l.k)
    × (l.sum ≡ plus_to (scalars_at l.a l.i) (scalars_at l.b l.j) l.initial.sum l.counter)
    × Cut (length l.a) l.p (l.i.base + l.counter * l.i.step) × Cut (length l.b) l.q (l.j.base + l.counter * l.j.step)
