-- `scaled_points_inside` meets its contract: the places so far are filled, those ahead are as they were, and each place
-- is inside.
use mathlib.Core.Path.{◌≡◌}
use Prim.Native.Nat.{◌≤◌}
use lib.ListN.{length}
use Rattle.linear.specs.Scaled.{minus_scaled}
use Rattle.linear.proofs.scaled.scaled_points_inside.Given as goal

abbrev pub invariant-loop-p : goal.invariant-loop-p
invariant-loop-p l = (l.p ≤ l.k) × (length l.v ≡ length l.initial.v)
    × (l.v ≡ minus_scaled l.initial.v l.v0 l.a l.w l.w0 l.p)
