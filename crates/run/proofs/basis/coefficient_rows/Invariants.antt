-- `coefficient_rows` meets its contract: the slice starts with the coefficients stored so far, and is else as it was.
use mathlib.Core.Path.{◌≡◌}
use mathlib.Core.List.{List, [], ◌++◌}
use Prim.Native.Nat.{ℕ, ◌*◌, ◌/◌, ◌%◌, ◌≤◌, ◌-◌}
use lib.Ieee.{Float}
use lib.ListN.{length, drop}
use Rattle.interval.specs.declared.Scalar.{Scalar}
use Rattle.linear.specs.Flat.{list_to}
use Rattle.run.specs.program.Basis.{basis_by}
use Rattle.run.specs.Basis.{coefficient_at}
use Rattle.run.proofs.basis.coefficient_rows.Given as goal

-- the p-th coefficient
abbrev pub packed_at : ℕ → List Float → List Float → ℕ → Scalar
packed_at r coefficients dependent p = coefficient_at (basis_by r [] [] coefficients dependent []) (p / r) (p % r)

abbrev pub invariant-loop-p : goal.invariant-loop-p
invariant-loop-p l = (l.p ≤ l.n) × (length l.rows ≡ length l.initial.rows)
    × (l.rows ≡ list_to (packed_at l.r l.coefficients l.dependent) l.p ++ drop (2 * l.p) l.initial.rows)

abbrev pub decreases-loop-p : goal.decreases-loop-p
decreases-loop-p l = l.n - l.p
