-- `projections` meets its contract: the slice starts with the products stored so far, and is else as it was.
use mathlib.Core.Path.{◌≡◌}
use mathlib.Core.List.{◌++◌}
use Prim.Native.Nat.{◌*◌, ◌≤◌, ◌-◌}
use lib.ListN.{length, drop}
use Rattle.linear.specs.Dot.{dot_to}
use Rattle.linear.specs.Flat.{list_to}
use Rattle.run.specs.Vectors.{row}
use Rattle.run.proofs.basis.projections.Given as goal

abbrev pub invariant-loop-j : goal.invariant-loop-j
invariant-loop-j l =
    (l.j ≤ l.r) × (length l.b ≡ length l.initial.b)
    × (l.b ≡ list_to (λ t. dot_to (row l.wide l.i) (row l.q t) l.k) l.j ++ drop (2 * l.j) l.initial.b)

abbrev pub decreases-loop-j : goal.decreases-loop-j
decreases-loop-j l = l.r - l.j
