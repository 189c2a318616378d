-- `field` meets its contract: a number, and the byte that ends it; each may be missing.
use borrow.Author.Rules.{rules}
use mathlib.Core.Path.{◌≡◌, sym, ◌∙◌}
use Rattle.std.specs.Prelude.{Err}
use Rattle.linear.proofs.Folds.{bind_ok, bind_refused}
use Rattle.sheet.specs.program.Text.{read_in}
use Rattle.sheet.proofs.Tests.{passed_on}
use Rattle.sheet.proofs.NumberLaws.{field_capped}
use Rattle.sheet.proofs.numbers.field.Goals as goal

pub returns-in_err-x : goal.returns-in_err-x
returns-in_err-x c =
    let r : c.from_residual.result ≡ Err c.in_err-x.field-0.0 = search rules in
    passed_on (read_in _) r
    (sym (field_capped _ _
    ∙ bind_refused _ (sym c.in_err-x.ensures)))

pub returns-in_err-rest : goal.returns-in_err-rest
returns-in_err-rest c =
    let r : c.from_residual-in_err-rest.result ≡ Err c.in_err-rest.field-0.0 = search rules in
    passed_on (read_in _) r
    (sym (field_capped _ _
    ∙ bind_ok _ (sym c.in_ok-x.ensures)
    ∙ bind_refused _ (sym c.in_err-rest.ensures)))

pub returns : goal.returns
returns c =
    sym (field_capped _ _
    ∙ bind_ok _ (sym c.in_ok-x.ensures)
    ∙ bind_ok _ (sym c.in_ok-rest.ensures))
