-- `values` meets its contract: the invariant is the fold at the values found, not refused.
use mathlib.Core.Path.{◌≡◌}
use Prim.Native.Nat.{◌≤◌}
use lib.ListN.{length}
use Rattle.interval.specs.Result.{ok}
use Rattle.linear.specs.Results.{fold_r}
use Rattle.linear.specs.Cholesky.{factor_of}
use Rattle.linear.specs.Householder.{value_step}
use Rattle.linear.proofs.householder.values.Given as goal

abbrev pub invariant-loop-t : goal.invariant-loop-t
invariant-loop-t l = (l.t ≤ l.k) × (length l.y ≡ length l.initial.y)
    × (fold_r (value_step l.m l.r l.k (factor_of l.cols l.left_out)) l.initial.y l.t ≡ ok l.y)
