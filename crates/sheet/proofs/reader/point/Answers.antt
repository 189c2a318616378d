-- `point` meets its contract: the key, the two numbers and whether both are near; then both are below the cap.
use borrow.Author.Rules.{rules}
use mathlib.Core.Path.{◌≡◌, sym, ◌∙◌}
use mir.Syntax.{w64}
use mir.ValLaws.{to_z-of_z}
use Rattle.std.specs.Prelude.{Err}
use Rattle.linear.proofs.Folds.{bind_ok, bind_refused}
use Rattle.sheet.specs.Sheet.{out_of_range}
use Rattle.sheet.specs.program.Text.{read_in}
use Rattle.sheet.proofs.Tests.{both, not_first, passed_on, passes, refuses}
use Rattle.sheet.proofs.LineLaws.{point_capped, same_point}
use Rattle.sheet.proofs.reader.point.Goals as goal
use Rattle.sheet.proofs.reader.point.Goals.{
  else-is_near-via-then-is_near+else-is_near-2,
  else-is_near-via-else-is_near,
}

pub returns-in_err-fields : goal.returns-in_err-fields
returns-in_err-fields c =
    let r : c.from_residual.result ≡ Err c.in_err-fields.field-0.0 = search rules in
    passed_on (read_in _) r
    (sym (point_capped _ ∙ bind_refused _ (sym c.in_err-fields.ensures)))

pub returns-in_err-x : goal.returns-in_err-x
returns-in_err-x c =
    let r : c.from_residual-in_err-x.result ≡ Err c.in_err-x.field-0.0 = search rules in
    passed_on (read_in _) r
    (sym (point_capped _
    ∙ bind_ok _ (sym c.in_ok-fields.ensures)
    ∙ bind_refused _ (sym c.in_err-x.ensures)))

pub returns-then-is_near-2 : goal.returns-then-is_near-2
returns-then-is_near-2 c =
    same_point _ (to_z-of_z w64 c.whole.result (record { sfits = c.whole.type_inv }) ∙ c.whole.ensures)
    (to_z-of_z w64 c.whole-then-is_near-2.result (record { sfits = c.whole-then-is_near-2.type_inv }) ∙ c.whole-then-is_near-2.ensures)
    ∙ sym (point_capped _
    ∙ bind_ok _ (sym c.in_ok-fields.ensures)
    ∙ bind_ok _ (sym c.in_ok-x.ensures)
    ∙ passes out_of_range _
    (c.is_near-then-is_near.ensures
    ∙ both _ c.is_near.ensures c.if-is_near.true)
    c.if-is_near-2.true)

pub returns : goal.returns
returns c =
    let e = c.is_near.ensures in
    sym (point_capped _
    ∙ bind_ok _ (sym c.in_ok-fields.ensures)
    ∙ bind_ok _ (sym c.in_ok-x.ensures)
    ∙ elim c.else-is_near.branch [
      | else-is_near-via-then-is_near+else-is_near-2 w ↦
          refuses out_of_range _ (w.is_near-then-is_near.ensures ∙ both _ e w.if-is_near.true) w.if-is_near-2.false
      | else-is_near-via-else-is_near w ↦ refuses out_of_range _ (not_first _ e w.if-is_near.false) w.if-is_near.false
    ])
