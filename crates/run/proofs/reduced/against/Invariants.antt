-- `against` meets its contract: the slice starts with the products stored so far, and is else as it was.
use mathlib.Core.Path.{◌≡◌}
use mathlib.Core.List.{◌++◌}
use Prim.Native.Nat.{◌*◌, ◌≤◌, ◌-◌}
use lib.ListN.{length, drop}
use Rattle.interval.specs.Scalar.{neg_of}
use Rattle.linear.specs.Choose.{choose_of}
use Rattle.linear.specs.Dot.{dot_to}
use Rattle.linear.specs.Flat.{at, list_to}
use Rattle.run.specs.Vectors.{row}
use Rattle.run.proofs.reduced.against.Given as goal

abbrev pub invariant-loop-t : goal.invariant-loop-t
invariant-loop-t l = (l.t ≤ l.count) × (length l.out ≡ length l.initial.out)
    × (l.out ≡ list_to (λ j. choose_of (neg_of (dot_to (row l.z j) (at l.force) l.k))) l.t
    ++ drop (2 * l.t) l.initial.out)

abbrev pub decreases-loop-t : goal.decreases-loop-t
decreases-loop-t l = l.count - l.t
