-- `reflections` meets its contract: the invariant is the fold at the columns passed, not refused.
use mathlib.Core.Path.{◌≡◌}
use Prim.Native.Nat.{◌≤◌}
use lib.ListN.{length}
use Rattle.interval.specs.Result.{ok}
use Rattle.linear.specs.Results.{fold_r}
use Rattle.linear.specs.Cholesky.{factor_of}
use Rattle.linear.specs.Householder.{householder_step}
use Rattle.linear.proofs.householder.reflections.Given as goal

abbrev pub invariant-loop-j : goal.invariant-loop-j
invariant-loop-j l = (l.j ≤ l.k) × (length l.cols ≡ length l.initial.cols)
    × (length l.left_out ≡ length l.initial.left_out) × (length l.v ≡ length l.initial.v)
    × (fold_r (householder_step l.m l.r) (factor_of l.initial.cols l.initial.left_out) l.j ≡ ok
    (factor_of l.cols l.left_out))
