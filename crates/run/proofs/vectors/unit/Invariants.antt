-- `unit` meets its contract: the places so far are filled.
use mathlib.Core.Path.{◌≡◌}
use Prim.Native.Nat.{◌≤◌, ◌-◌}
use lib.ListN.{length}
use Rattle.interval.specs.declared.Scalar.{Scalar}
use Rattle.interval.specs.Result.{result_of}
use Rattle.interval.specs.Scalar.{inverse_of}
use Rattle.linear.specs.Flat.{along}
use Rattle.run.specs.Vectors.{fill_to, unit_at}
use Rattle.run.proofs.vectors.unit.Given as goal

-- for every length that the inverse is of
abbrev pub invariant-loop-p : goal.invariant-loop-p
invariant-loop-p l = (l.p ≤ l.k) × (length l.to ≡ length l.initial.to)
    × ((len : Scalar) → result_of l.inverse ≡ inverse_of len
    → l.to ≡ fill_to l.initial.to l.t0 (unit_at (along l.v l.v0 1) len) l.p)

abbrev pub decreases-loop-p : goal.decreases-loop-p
decreases-loop-p l = l.k - l.p
