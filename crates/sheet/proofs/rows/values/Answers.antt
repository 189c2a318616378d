-- `values` meets its contract: the places so far are filled.
use borrow.Author.Rules.{rules}
use mathlib.Core.Path.{refl, ap, ◌∙◌}
use Rattle.linear.specs.Flat.{fill_to}
use Rattle.run.proofs.VectorLaws.{fill_first}
use Rattle.sheet.specs.Rows.{value_of, rule_at}
use Rattle.sheet.specs.program.Sheet.{list_in}
use Rattle.sheet.proofs.RowLaws.{rule-in}
use Rattle.sheet.proofs.rows.values.Goals as goal

pub loop-k-init : goal.loop-k-init
unfolding fill_to
loop-k-init c = (search rules, refl, refl)

pub loop-k-preserved : goal.loop-k-preserved
loop-k-preserved c =
    let f = value_of c.args.x.now in
    let l = c.loop-k in (
      search rules,
      search rules,
      c.put.ensures ∙ fill_first _ (λ i. f (rule_at (list_in c.args.rules) i)) l.k l.invariant.2
          (c.value.ensures
          ∙ ap f (rule-in c.args.rules c.well_formed.0.1.1.1.0.1.0.1 c.requires l.k _
          c.loop-k-test.true)),
    )
