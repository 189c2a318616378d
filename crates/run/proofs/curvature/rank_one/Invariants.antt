-- `rank_one` meets its contract: the invariant is the fold at the entries passed, not refused.
use mathlib.Core.Path.{◌≡◌}
use Prim.Native.Nat.{◌≤◌, ◌-◌}
use lib.ListN.{length}
use Rattle.interval.specs.declared.Scalar.{Scalar}
use Rattle.interval.specs.Result.{ok, result_of}
use Rattle.interval.specs.Scalar.{inverse_of}
use Rattle.linear.specs.Results.{fold_r}
use Rattle.run.specs.Curvature.{rank_one_step}
use Rattle.run.proofs.curvature.rank_one.Given as goal

-- for every scalar that the inverse is of
abbrev pub invariant-loop-p : goal.invariant-loop-p
invariant-loop-p l = (l.p ≤ l.q) × (length l.b ≡ length l.initial.b)
    × ((vs : Scalar) → result_of l.inverse ≡ inverse_of vs → fold_r (rank_one_step l.n l.v vs) l.initial.b l.p ≡ ok l.b)

abbrev pub decreases-loop-p : goal.decreases-loop-p
decreases-loop-p l = l.q - l.p
