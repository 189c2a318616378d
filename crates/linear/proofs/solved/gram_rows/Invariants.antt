-- `gram_rows` meets its contract: the rows above are in place, and both rows up to the column.
use Prim.Native.Nat.{◌+◌, ◌≤◌}
use mathlib.Core.Path.{◌≡◌}
use lib.ListN.{length}
use Rattle.linear.specs.Solved.{gram_at}
use Rattle.linear.proofs.GramRows.{Filled}
use Rattle.linear.proofs.solved.gram_rows.Given as goal

abbrev pub invariant-loop-j : goal.invariant-loop-j
invariant-loop-j l = (l.j ≤ l.i + 2) × (length l.g ≡ length l.initial.g)
    × Filled (gram_at l.n l.jc) l.m l.i (l.i + 2) l.j l.g
