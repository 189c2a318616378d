-- `squeeze_row` meets its contract: one place more is filled in each turn.
use borrow.Author.Rules.{rules}
use mathlib.Core.Path.{◌∙◌}
use Prim.Native.Nat.{ℕ}
use lib.ListN.{get_or}
use Rattle.interval.specs.declared.Scalar.{Scalar}
use Rattle.run.specs.program.Problem.{chosen_if}
use Rattle.run.specs.Rows.{rows_in, slope_at}
use Rattle.run.specs.Vectors.{fill_to}
use Rattle.run.proofs.VectorLaws.{fill_turn}
use Rattle.run.proofs.problem.squeeze_row.Goals as goal

pub loop-p-init : goal.loop-p-init
unfolding fill_to
loop-p-init c = search rules

pub loop-p-preserved : goal.loop-p-preserved
loop-p-preserved c =
    let a = c.args in
    let l = c.loop-p in
    let f : ℕ → Scalar = λ j. chosen_if a.is_chosen (slope_at (rows_in a.xs.now a.e) a.i
    (get_or a.index.now j 0)) in (
      search rules,
      search rules,
      c.put.ensures ∙ fill_turn a.to.now a.t0 f l.p l.invariant.2 c.kept_slope.ensures,
    )
