-- `forward` meets its contract: the invariant is the fold at the rows passed, not refused.
use mathlib.Core.Path.{◌≡◌}
use Prim.Native.Nat.{◌≤◌}
use lib.ListN.{length}
use Rattle.interval.specs.Result.{ok}
use Rattle.linear.specs.Results.{fold_r}
use Rattle.linear.specs.Substitution.{forward_step}
use Rattle.linear.proofs.substitution.forward.Given as goal

abbrev pub invariant-loop-i : goal.invariant-loop-i
invariant-loop-i l = (l.i ≤ l.n) × (length l.y ≡ length l.initial.y)
    × (fold_r (forward_step l.n l.l l.left_out l.b) l.initial.y l.i ≡ ok l.y)
