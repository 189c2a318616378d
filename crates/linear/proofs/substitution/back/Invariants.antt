-- `back` meets its contract: the invariant is the fold at the rows passed, not refused.
use mathlib.Core.Path.{◌≡◌}
use Prim.Native.Nat.{◌≤◌}
use lib.ListN.{length}
use Rattle.interval.specs.Result.{ok}
use Rattle.linear.specs.Results.{fold_r}
use Rattle.linear.specs.Substitution.{back_step}
use Rattle.linear.proofs.substitution.back.Given as goal

abbrev pub invariant-loop-t : goal.invariant-loop-t
invariant-loop-t l = (l.t ≤ l.n) × (length l.x ≡ length l.initial.x)
    × (fold_r (back_step l.n l.l l.left_out l.y) l.initial.x l.t ≡ ok l.x)
