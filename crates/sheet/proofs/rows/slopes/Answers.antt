-- `slopes` meets its contract: the places so far are filled.
use borrow.Author.Rules.{rules}
use mathlib.Core.Path.{refl, ap, ◌∙◌}
use Prim.Native.Nat.{◌/◌, ◌%◌}
use Rattle.linear.specs.Flat.{fill_to}
use Rattle.linear.proofs.FillLaws.{fill_turn}
use Rattle.sheet.specs.Rows.{slope_of, rule_at}
use Rattle.sheet.specs.program.Sheet.{list_in}
use Rattle.sheet.proofs.RowLaws.{rule_near, rule-in, row_below}
use Rattle.sheet.proofs.rows.slopes.Goals as goal

pub loop-p-init : goal.loop-p-init
unfolding fill_to
loop-p-init c = (search rules, refl, refl)

pub slope-requires : goal.slope-requires
slope-requires c =
    rule_near c.args.rules c.well_formed.1.0.1.1.1.0.1.0.1 c.requires.0 _ _ (row_below _ c.args.n c.loop-p-test.true)

pub loop-p-preserved : goal.loop-p-preserved
loop-p-preserved c =
    let a = c.args in
    let l = c.loop-p in (
      search rules,
      search rules,
      c.put.ensures
          ∙ fill_turn _ _ (λ q. slope_of a.x.now (rule_at (list_in a.rules) (q / a.n)) (q % a.n)) l.p l.invariant.2
          (c.slope.ensures ∙ ap (λ r. slope_of a.x.now r (l.p % a.n))
          (rule-in a.rules c.well_formed.1.0.1.1.1.0.1.0.1 c.requires.0 (l.p / a.n) _
          (row_below _ c.args.n c.loop-p-test.true))),
    )
