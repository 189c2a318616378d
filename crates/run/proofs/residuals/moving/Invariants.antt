-- `moving` meets its contract: the marks so far are set, and the others are clear.
use mathlib.Core.Bool.{◌||◌}
use Prim.Native.Nat.{◌≤◌, ◌-◌}
use Rattle.run.specs.Rows.{sum_of, constraints_of}
use Rattle.run.specs.Residuals.{depends_on}
use Rattle.run.proofs.RowLaws.{Marked}
use Rattle.run.proofs.residuals.moving.Given as goal

abbrev pub invariant-loop-j : goal.invariant-loop-j
invariant-loop-j l =
    (l.j ≤ l.n) × Marked (λ i. depends_on (sum_of l.c l.xs) i || depends_on (constraints_of l.c l.xs) i) l.j l.marks

abbrev pub decreases-loop-j : goal.decreases-loop-j
decreases-loop-j l = l.n - l.j
