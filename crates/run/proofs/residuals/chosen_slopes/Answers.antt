-- `chosen_slopes` meets its contract: the places so far are filled.
use borrow.Author.Rules.{rules}
use mathlib.Core.Path.{refl, ap, ◌∙◌}
use Prim.Native.Nat.{◌+◌}
use Rattle.linear.specs.Choose.{choose_of}
use Rattle.linear.specs.Flat.{at}
use Rattle.run.specs.Vectors.{fill_to}
use Rattle.run.specs.Rows.{rows_in}
use Rattle.run.proofs.RowLaws.{slope_among}
use Rattle.run.proofs.VectorLaws.{fill_first}
use Rattle.run.proofs.residuals.chosen_slopes.Goals as goal

pub loop-p-init : goal.loop-p-init
unfolding fill_to
loop-p-init c = (search rules, refl, refl)

pub loop-p-preserved : goal.loop-p-preserved
loop-p-preserved c =
    let a = c.args in
    let l = c.loop-p in
    let v = c.choose.ensures
    ∙ ap choose_of (c.slope_of.ensures ∙ slope_among (rows_in a.xs.now a.e)
    l.p) in (
      search rules,
      search rules,
      c.put.ensures
          ∙ fill_first _ (λ j. choose_of (at a.xs.now (a.e.slopes + j))) l.p l.invariant.2 v,
    )
