-- `two_fields` meets its contract: a field, and what follows its comma; each may be malformed.
use borrow.Author.Rules.{rules}
use mathlib.Core.Path.{◌≡◌, sym, ◌∙◌}
use Rattle.std.specs.Prelude.{Err}
use Rattle.linear.proofs.Folds.{bind_ok, bind_refused}
use Rattle.sheet.specs.program.Text.{read_in}
use Rattle.sheet.proofs.Tests.{passed_on}
use Rattle.sheet.proofs.NumberLaws.{two_capped}
use Rattle.sheet.proofs.numbers.two_fields.Goals as goal

pub returns-in_err-x : goal.returns-in_err-x
returns-in_err-x c =
    let r : c.from_residual.result ≡ Err c.in_err-x.field-0.0 = search rules in
    passed_on (read_in _) r
    (sym (two_capped _
    ∙ bind_refused _ (sym c.in_err-x.ensures)))

pub returns-in_err-y : goal.returns-in_err-y
returns-in_err-y c =
    let r : c.from_residual-in_err-y.result ≡ Err c.in_err-y.field-0.0 = search rules in
    passed_on (read_in _) r
    (sym (two_capped _
    ∙ bind_ok _ (sym c.in_ok-x.ensures)
    ∙ bind_refused _ (sym c.in_err-y.ensures)))

pub returns : goal.returns
returns c =
    sym (two_capped _
    ∙ bind_ok _ (sym c.in_ok-x.ensures)
    ∙ bind_ok _ (sym c.in_ok-y.ensures))
