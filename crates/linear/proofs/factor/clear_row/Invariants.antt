-- `clear_row` meets its contract: the invariant is the definition at the columns passed.
use mathlib.Core.Path.{◌≡◌}
use Prim.Native.Nat.{◌≤◌}
use lib.ListN.{length}
use Rattle.linear.specs.CholeskyRows.{clear_row}
use Rattle.linear.proofs.factor.clear_row.Given as goal

abbrev pub invariant-loop-k : goal.invariant-loop-k
invariant-loop-k l = (l.k ≤ l.n) × (length l.l ≡ length l.initial.l) × (l.l ≡ clear_row l.n l.i l.initial.l l.k)
