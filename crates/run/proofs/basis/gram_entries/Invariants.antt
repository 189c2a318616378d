-- `gram_entries` meets its contract: the invariant is the fold at the entries passed, not refused.
use mathlib.Core.Path.{◌≡◌}
use Prim.Native.Nat.{◌≤◌, ◌-◌}
use lib.ListN.{length}
use Rattle.interval.specs.Result.{ok}
use Rattle.linear.specs.Results.{fold_r}
use Rattle.run.specs.Basis.{gram_step}
use Rattle.run.proofs.basis.gram_entries.Given as goal

abbrev pub invariant-loop-j : goal.invariant-loop-j
invariant-loop-j l =
    (l.j ≤ l.r) × (length l.gram ≡ length l.initial.gram)
    × (fold_r (gram_step l.k l.r l.q) l.initial.gram l.j ≡ ok l.gram)

abbrev pub decreases-loop-j : goal.decreases-loop-j
decreases-loop-j l = l.r - l.j
