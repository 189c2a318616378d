-- `parts_out` meets its contract: one part more is out in each turn.
use mathlib.Core.Path.{◌≡◌}
use Prim.Native.Nat.{◌≤◌, ◌-◌}
use lib.ListN.{length}
use Rattle.run.specs.Basis.{parts_out}
use Rattle.run.specs.program.Basis.{taken_by}
use Rattle.run.proofs.basis.parts_out.Given as goal

abbrev pub invariant-loop-j : goal.invariant-loop-j
invariant-loop-j l =
    (l.j ≤ l.r) × (length l.v ≡ length l.initial.v) × (length l.coefficients ≡ length l.initial.coefficients)
    × (taken_by l.v l.coefficients ≡ parts_out l.k l.r l.q (taken_by l.initial.v l.initial.coefficients) l.j)

abbrev pub decreases-loop-j : goal.decreases-loop-j
decreases-loop-j l = l.r - l.j
