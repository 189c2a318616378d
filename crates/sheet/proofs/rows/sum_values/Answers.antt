-- `sum_values` meets its contract: the places so far are filled.
use borrow.Author.Rules.{rules}
use mathlib.Core.Path.{refl, ◌∙◌}
use Rattle.interval.specs.Scalar.{sub_of}
use Rattle.linear.specs.Flat.{at, fill_to}
use Rattle.linear.proofs.FillLaws.{fill_turn}
use Rattle.sheet.proofs.RowLaws.{sub_is}
use Rattle.sheet.proofs.rows.sum_values.Goals as goal

pub loop-i-init : goal.loop-i-init
unfolding fill_to
loop-i-init c = (search rules, refl, refl)

pub loop-i-preserved : goal.loop-i-preserved
loop-i-preserved c =
    let a = c.args in
    let l = c.loop-i in (
      search rules,
      search rules,
      c.put.ensures
          ∙ fill_turn _ _ (λ j. sub_of (at a.x.now j) (at a.aims.now j)) l.i l.invariant.2
          (sub_is c.at.ensures
          c.at-in-loop-i.ensures
          c.sub.ensures.value),
    )
