-- `natural` meets its contract: the key, the number and its range; a capped size is out of range where the size is.
use borrow.Author.Rules.{rules}
use mathlib.Core.Path.{◌≡◌, sym, ◌∙◌}
use Rattle.std.specs.Prelude.{Err}
use Rattle.linear.proofs.Folds.{bind_ok, bind_refused}
use Rattle.sheet.specs.Sheet.{out_of_range}
use Rattle.sheet.specs.program.Text.{read_in}
use Rattle.sheet.proofs.Tests.{passed_on, passes, refuses}
use Rattle.sheet.proofs.LineLaws.{natural_capped}
use Rattle.sheet.proofs.reader.natural.Goals as goal

pub returns-in_err-fields : goal.returns-in_err-fields
returns-in_err-fields c =
    let r : c.from_residual.result ≡ Err c.in_err-fields.field-0.0 = search rules in
    passed_on (read_in _) r
    (sym (natural_capped _ _ _ _ c.requires
    ∙ bind_refused _ (sym c.in_err-fields.ensures)))

pub returns-in_err-x : goal.returns-in_err-x
returns-in_err-x c =
    let r : c.from_residual-in_err-x.result ≡ Err c.in_err-x.field-0.0 = search rules in
    passed_on (read_in _) r
    (sym (natural_capped _ _ _ _ c.requires
    ∙ bind_ok _ (sym c.in_ok-fields.ensures)
    ∙ bind_refused _ (sym c.in_err-x.ensures)))

pub returns-then-is_between : goal.returns-then-is_between
returns-then-is_between c =
    sym (natural_capped _ _ _ _ c.requires
    ∙ bind_ok _ (sym c.in_ok-fields.ensures)
    ∙ bind_ok _ (sym c.in_ok-x.ensures)
    ∙ passes out_of_range _ c.is_between.ensures c.if-is_between.true)

pub returns : goal.returns
returns c =
    sym (natural_capped _ _ _ _ c.requires
    ∙ bind_ok _ (sym c.in_ok-fields.ensures)
    ∙ bind_ok _ (sym c.in_ok-x.ensures)
    ∙ refuses out_of_range _ c.is_between.ensures c.if-is_between.false)
