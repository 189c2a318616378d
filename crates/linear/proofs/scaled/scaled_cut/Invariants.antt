-- `scaled_cut` meets its contract: the places so far are filled, and each place is its run's, or outside the slice.
use mathlib.Core.Path.{◌≡◌}
use Prim.Native.Nat.{◌+◌, ◌≤◌}
use lib.ListN.{length}
use Rattle.linear.specs.Scaled.{minus_scaled}
use Rattle.linear.proofs.Walks.{Cut}
use Rattle.linear.proofs.scaled.scaled_cut.Given as goal

abbrev pub invariant-loop : goal.invariant-loop
invariant-loop l = (l.counter ≤ l.k) × (length l.v ≡ length l.initial.v)
    × (l.v ≡ minus_scaled l.initial.v l.v0 l.a l.w l.w0 l.counter)
    × Cut (length l.initial.v) l.i (l.v0 + l.counter) × Cut (length l.w) l.j (l.w0 + l.counter)
