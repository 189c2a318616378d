-- `squeeze` meets its contract: one row more is filled in each turn.
use borrow.Author.Rules.{rules}
use mathlib.Core.Path.{◌∙◌}
use Prim.Native.Nat.{ℕ}
use native.Mathlib.Nat.{le_antisymm}
use Rattle.interval.specs.declared.Scalar.{Scalar}
use Rattle.run.specs.program.Problem.{kept_by, chosen_if, squeezed_as}
use Rattle.run.specs.Problem.{variable}
use Rattle.run.specs.Rows.{rows_in, slope_at}
use Rattle.run.specs.Vectors.{fill_rows}
use Rattle.run.proofs.VectorLaws.{fill_rows_turn}
use Rattle.run.proofs.problem.squeeze.Goals as goal

pub loop-i-init : goal.loop-i-init
unfolding fill_rows
loop-i-init c = search rules

pub loop-i-preserved : goal.loop-i-preserved
loop-i-preserved c =
    let a = c.args in
    let l = c.loop-i in
    let f : ℕ → ℕ → Scalar = λ j p. chosen_if a.is_chosen (slope_at (rows_in a.xs.now a.e) j
    (variable (kept_by a.k a.index.now) p)) in (
      search rules,
      search rules,
      c.squeeze_row.ensures ∙ fill_rows_turn a.to.now f a.k l.i l.invariant.2,
    )

pub returns : goal.returns
unfolding squeezed_as
returns c = rw (le_antisymm c.loop-i.invariant.0 c.loop-i-test.false) at c.loop-i.invariant.2
