-- `pack` meets its contract: the slice starts with the entries stored so far, and is else as it was.
use mathlib.Core.Path.{◌≡◌}
use mathlib.Core.List.{◌++◌}
use Prim.Native.Nat.{◌*◌, ◌/◌, ◌%◌, ◌≤◌, ◌-◌}
use lib.ListN.{length, drop}
use Rattle.linear.specs.Flat.{list_to}
use Rattle.run.specs.Vectors.{entry}
use Rattle.run.proofs.basis.pack.Given as goal

abbrev pub invariant-loop-p : goal.invariant-loop-p
invariant-loop-p l =
    (l.p ≤ l.n) × (length l.to ≡ length l.initial.to)
    × (l.to ≡ list_to (λ j. entry l.a (j / l.r) (j % l.r)) l.p ++ drop (2 * l.p) l.initial.to)

abbrev pub decreases-loop-p : goal.decreases-loop-p
decreases-loop-p l = l.n - l.p
