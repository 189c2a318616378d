-- `aligned` meets its contract: the key, the two numbers and whether they are two points.
use borrow.Author.Rules.{rules}
use mathlib.Core.Path.{◌≡◌, sym, ◌∙◌}
use Rattle.std.specs.Prelude.{Err}
use Rattle.linear.proofs.Folds.{bind_ok, bind_refused}
use Rattle.sheet.specs.Sheet.{no_point}
use Rattle.sheet.specs.program.Text.{read_in}
use Rattle.sheet.proofs.Tests.{passed_on, passes, refuses}
use Rattle.sheet.proofs.LineLaws.{aligned_kind}
use Rattle.sheet.proofs.reader.aligned.Goals as goal

pub returns-in_err-fields : goal.returns-in_err-fields
returns-in_err-fields c =
    let r : c.from_residual.result ≡ Err c.in_err-fields.field-0.0 = search rules in
    passed_on (read_in _) r
    (sym (aligned_kind _ c.requires _ _ _
    ∙ bind_refused _ (sym c.in_err-fields.ensures)))

pub returns-in_err-i : goal.returns-in_err-i
returns-in_err-i c =
    let r : c.from_residual-in_err-i.result ≡ Err c.in_err-i.field-0.0 = search rules in
    passed_on (read_in _) r
    (sym (aligned_kind _ c.requires _ _ _
    ∙ bind_ok _ (sym c.in_ok-fields.ensures)
    ∙ bind_refused _ (sym c.in_err-i.ensures)))

pub returns-then-are_two : goal.returns-then-are_two
returns-then-are_two c =
    sym (aligned_kind _ c.requires _ _ _
    ∙ bind_ok _ (sym c.in_ok-fields.ensures)
    ∙ bind_ok _ (sym c.in_ok-i.ensures)
    ∙ passes no_point _ c.are_two.ensures c.if-are_two.true)

pub returns : goal.returns
returns c =
    sym (aligned_kind _ c.requires _ _ _
    ∙ bind_ok _ (sym c.in_ok-fields.ensures)
    ∙ bind_ok _ (sym c.in_ok-i.ensures)
    ∙ refuses no_point _ c.are_two.ensures c.if-are_two.false)
