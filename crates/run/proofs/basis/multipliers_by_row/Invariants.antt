-- `multipliers_by_row` meets its contract: the invariant is the fold at the vectors passed, not refused.
use mathlib.Core.Path.{◌≡◌}
use mathlib.Core.List.{[]}
use Prim.Native.Nat.{◌≤◌, ◌-◌}
use lib.ListN.{length, drop}
use Rattle.interval.specs.Result.{ok}
use Rattle.linear.specs.Results.{fold_r}
use Rattle.run.specs.program.Basis.{basis_by}
use Rattle.run.specs.Basis.{multiplier_step}
use Rattle.run.proofs.basis.multipliers_by_row.Given as goal

abbrev pub invariant-loop-u : goal.invariant-loop-u
invariant-loop-u l = (l.u ≤ l.r) × (length l.by_row ≡ length l.initial.by_row)
    × (fold_r (multiplier_step l.k (basis_by l.r l.q [] (drop 288 l.q) [] []) l.pull) l.initial.by_row l.u
    ≡ ok l.by_row)

abbrev pub decreases-loop-u : goal.decreases-loop-u
decreases-loop-u l = l.r - l.u
