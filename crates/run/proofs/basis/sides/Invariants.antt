-- `sides` meets its contract: the slice starts with the values stored so far, and is else as it was.
use mathlib.Core.Path.{◌≡◌}
use mathlib.Core.List.{List, [], ◌++◌}
use Prim.Native.Nat.{ℕ, ◌*◌, ◌≤◌, ◌-◌}
use lib.ListN.{length, drop}
use Rattle.interval.specs.declared.Scalar.{Scalar}
use Rattle.interval.specs.Scalar.{neg_of}
use Rattle.linear.specs.Choose.{choose_of}
use Rattle.linear.specs.Flat.{list_to}
use Rattle.run.specs.program.Basis.{basis_by}
use Rattle.run.specs.Basis.{order_at}
use Rattle.run.specs.Rows.{Rows, rows_in, value_at}
use Rattle.run.proofs.basis.sides.Given as goal

-- the t-th side
abbrev pub side_at : ℕ → List ℕ → Rows → ℕ → Scalar
side_at r order e t = neg_of (choose_of (value_at e (order_at (basis_by r [] [] [] [] order) t)))

abbrev pub invariant-loop-t : goal.invariant-loop-t
invariant-loop-t l = (l.t ≤ l.m) × (length l.rhs ≡ length l.initial.rhs)
    × (l.rhs ≡ list_to (side_at l.r l.order (rows_in l.xs l.e)) l.t ++ drop (2 * l.t) l.initial.rhs)

abbrev pub decreases-loop-t : goal.decreases-loop-t
decreases-loop-t l = l.m - l.t
