-- `columns` meets its contract: the slice starts with the scalars stored so far, and is else as it was.
use mathlib.Core.Path.{◌≡◌}
use mathlib.Core.List.{◌++◌}
use Prim.Native.Nat.{◌*◌, ◌≤◌}
use lib.ListN.{length, drop}
use Rattle.linear.specs.Flat.{list_to}
use Rattle.linear.specs.Householder.{column_entry}
use Rattle.linear.proofs.householder.columns.Given as goal

abbrev pub invariant-loop-p : goal.invariant-loop-p
invariant-loop-p l = (l.p ≤ l.n) × (length l.cols ≡ length l.initial.cols)
    × (l.cols ≡ list_to (column_entry l.m l.r l.rows l.rhs) l.p ++ drop (2 * l.p) l.initial.cols)
