-- `chosen_values` meets its contract: the places so far are filled.
use borrow.Author.Rules.{rules}
use mathlib.Core.Path.{refl, ap, ◌∙◌}
use Rattle.linear.specs.Choose.{choose_of}
use Rattle.run.specs.Vectors.{fill_to}
use Rattle.run.specs.Rows.{rows_in, value_at}
use Rattle.run.proofs.VectorLaws.{fill_first}
use Rattle.run.proofs.residuals.chosen_values.Goals as goal

pub loop-i-init : goal.loop-i-init
unfolding fill_to
loop-i-init c = (search rules, refl, refl)

pub loop-i-preserved : goal.loop-i-preserved
loop-i-preserved c =
    let a = c.args in
    let l = c.loop-i in
    let v = c.choose.ensures
    ∙ ap choose_of c.value_of.ensures in (
      search rules,
      search rules,
      c.put.ensures
          ∙ fill_first _ (λ j. choose_of (value_at (rows_in a.xs.now a.e) j)) l.i l.invariant.2 v,
    )
