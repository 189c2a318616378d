-- `factor_rows` meets its contract: the invariant is the fold at the rows passed, not refused.
use mathlib.Core.Path.{◌≡◌}
use Prim.Native.Nat.{◌≤◌}
use lib.ListN.{length}
use Rattle.interval.specs.Result.{ok}
use Rattle.linear.specs.Results.{fold_r}
use Rattle.linear.specs.Cholesky.{factor_of}
use Rattle.linear.specs.CholeskyRows.{row_step}
use Rattle.linear.proofs.factor.factor_rows.Given as goal

abbrev pub invariant-loop-i : goal.invariant-loop-i
invariant-loop-i l = (l.i ≤ l.n) × (length l.l ≡ length l.initial.l) × (length l.left_out ≡ length l.initial.left_out)
    × (fold_r (row_step l.n l.a) (factor_of l.initial.l l.initial.left_out) l.i ≡ ok (factor_of l.l l.left_out))
