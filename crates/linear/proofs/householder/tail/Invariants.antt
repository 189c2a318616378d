-- `tail` meets its contract: the slice starts with the scalars stored so far, and is else as it was.
use mathlib.Core.Path.{◌≡◌}
use mathlib.Core.List.{◌++◌}
use Prim.Native.Nat.{◌*◌, ◌≤◌}
use lib.ListN.{length, drop}
use Rattle.linear.specs.Flat.{along, list_to}
use Rattle.linear.proofs.householder.tail.Given as goal

abbrev pub invariant-loop-k : goal.invariant-loop-k
invariant-loop-k l = (l.k ≤ l.n) × (length l.x ≡ length l.initial.x)
    × (l.x ≡ list_to (along l.cols l.base 1) l.k ++ drop (2 * l.k) l.initial.x)
