-- `transposed` meets its contract: where the checks passed the counts fit, and the places so far are filled.
use mathlib.Core.Path.{◌≡◌}
use Prim.Native.Nat.{◌≤◌, ◌-◌}
use lib.ListN.{length}
use Rattle.run.specs.Vectors.{vector, fill_to}
use Rattle.run.specs.Rows.{evaluation_of}
use Rattle.run.specs.Residuals.{transposed_at}
use Rattle.run.proofs.pieces.transposed.Given as goal

abbrev pub invariant-loop-j : goal.invariant-loop-j
invariant-loop-j l = (l.j ≤ l.n) × (length l.out ≡ length l.initial.out)
    × (l.out ≡ fill_to vector 0 (transposed_at (evaluation_of l.c l.xs).sum l.w) l.j)

abbrev pub decreases-loop-j : goal.decreases-loop-j
decreases-loop-j l = l.n - l.j
