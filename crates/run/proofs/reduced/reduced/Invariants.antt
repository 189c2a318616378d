-- `reduced` meets its contract: the slice starts with the products stored so far, and is else as it was.
use mathlib.Core.Path.{◌≡◌}
use mathlib.Core.List.{◌++◌}
use Prim.Native.Nat.{◌*◌, ◌/◌, ◌%◌, ◌≤◌, ◌-◌}
use lib.ListN.{length, drop}
use Rattle.linear.specs.Flat.{list_to}
use Rattle.run.specs.program.Reduced.{lower_at}
use Rattle.run.proofs.reduced.reduced.Given as goal

abbrev pub invariant-loop-p : goal.invariant-loop-p
invariant-loop-p l = (l.p ≤ l.q) × (length l.out ≡ length l.initial.out)
    × (l.out ≡ list_to (λ j. lower_at l.k l.z l.hz (j / l.count) (j % l.count)) l.p ++ drop (2 * l.p) l.initial.out)

abbrev pub decreases-loop-p : goal.decreases-loop-p
decreases-loop-p l = l.q - l.p
