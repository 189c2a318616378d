-- `entries` meets its contract: the invariant is the fold at the columns passed, not refused.
use mathlib.Core.Path.{◌≡◌}
use Prim.Native.Nat.{◌≤◌}
use lib.ListN.{length}
use Rattle.interval.specs.Result.{ok}
use Rattle.linear.specs.Results.{fold_r}
use Rattle.linear.specs.CholeskyRows.{entry_step}
use Rattle.linear.proofs.factor.entries.Given as goal

abbrev pub invariant-loop-j : goal.invariant-loop-j
invariant-loop-j l = (l.j ≤ l.i) × (length l.l ≡ length l.initial.l)
    × (fold_r (entry_step l.n l.a l.left_out l.i) l.initial.l l.j ≡ ok l.l)
