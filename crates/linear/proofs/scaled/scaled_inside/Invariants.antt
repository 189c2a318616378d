-- `scaled_inside` meets its contract: from where the points end the places so far are filled, those ahead are as they
-- were, and each place is inside.
use mathlib.Core.Path.{◌≡◌}
use mathlib.Core.List.{List}
use Prim.Native.Nat.{◌≤◌}
use lib.Ieee.{Float}
use lib.ListN.{length}
use Rattle.linear.specs.Scaled.{minus_scaled}
use Rattle.linear.proofs.scaled.scaled_inside.Given as goal

abbrev pub invariant-loop-p : goal.invariant-loop-p
invariant-loop-p l = (l.p ≤ l.k)
    × (length l.v ≡ length l.initial.v)
    × ((u : List Float) → l.initial.v ≡ minus_scaled u l.v0 l.a l.w l.w0 l.done
    → l.v ≡ minus_scaled u l.v0 l.a l.w l.w0 l.p)
