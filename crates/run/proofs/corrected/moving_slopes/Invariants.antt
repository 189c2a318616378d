-- `moving_slopes` meets its contract: the slice starts with the slopes stored so far, and is else as it was.
use mathlib.Core.List.{◌++◌}
use mathlib.Core.Path.{◌≡◌}
use Prim.Native.Nat.{◌*◌, ◌/◌, ◌%◌, ◌≤◌, ◌-◌}
use lib.ListN.{length, drop}
use Rattle.linear.specs.Flat.{list_to}
use Rattle.run.specs.Rows.{rows_in}
use Rattle.run.specs.Corrected.{moving_slope}
use Rattle.run.proofs.corrected.moving_slopes.Given as goal

abbrev pub invariant-loop-p : goal.invariant-loop-p
invariant-loop-p l = (l.p ≤ l.q) × (length l.jc ≡ length l.initial.jc)
    × (l.jc ≡ list_to (λ k. moving_slope l.moving (rows_in l.xs l.e) (k / l.n) (k % l.n)) l.p
    ++ drop (2 * l.p) l.initial.jc)

abbrev pub decreases-loop-p : goal.decreases-loop-p
decreases-loop-p l = l.q - l.p
