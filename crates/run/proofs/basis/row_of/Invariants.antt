-- `row_of` meets its contract: one place more is filled in each turn.
use mathlib.Core.Path.{◌≡◌}
use Prim.Native.Nat.{◌≤◌, ◌-◌}
use lib.ListN.{length}
use Rattle.run.specs.Vectors.{row, fill_to}
use Rattle.run.proofs.basis.row_of.Given as goal

abbrev pub invariant-loop-p : goal.invariant-loop-p
invariant-loop-p l = (l.p ≤ l.k) × (length l.v ≡ length l.initial.v) × (l.v ≡ fill_to l.initial.v 0 (row l.jc l.i) l.p)

abbrev pub decreases-loop-p : goal.decreases-loop-p
decreases-loop-p l = l.k - l.p
