-- `outside` meets its contract: an even number of places is filled so far, and at the end one more where k is odd.
use mathlib.Core.Path.{◌≡◌}
use Prim.Native.Nat.{◌*◌, ◌≤◌, ◌-◌}
use lib.ListN.{length}
use Rattle.linear.specs.Dot.{minus_to}
use Rattle.linear.specs.Flat.{at}
use Rattle.run.specs.Vectors.{column, entry, fill_to}
use Rattle.run.proofs.basis.outside.Given as goal

abbrev pub invariant-loop-h : goal.invariant-loop-h
invariant-loop-h l =
    (l.h ≤ l.half) × (length l.out ≡ length l.initial.out)
    × (l.out ≡ fill_to l.initial.out 0 (λ j. minus_to (at l.a) (column l.q j) (entry l.wide l.i j) l.r)
    (2 * l.h))

abbrev pub decreases-loop-h : goal.decreases-loop-h
decreases-loop-h l = l.half - l.h
