-- `behind_points` meets its contract: the limit, the reach and the rules; each may be at fault.
use borrow.Author.Rules.{rules}
use mathlib.Core.Path.{◌≡◌, sym, ◌∙◌}
use Rattle.std.specs.Prelude.{Err}
use Rattle.linear.proofs.Folds.{bind_ok, bind_refused}
use Rattle.sheet.specs.Sheet.{behind_points_of}
use Rattle.sheet.specs.program.Sheet.{sheet_in}
use Rattle.sheet.proofs.Tests.{passed_on}
use Rattle.sheet.proofs.reader.behind_points.Goals as goal

pub returns-in_err-limit : goal.returns-in_err-limit
unfolding behind_points_of
returns-in_err-limit c =
    let r : c.from_residual.result ≡ Err c.in_err-limit.field-0.0 = search rules in (
      passed_on (sheet_in _) r (sym (bind_refused _ (sym c.in_err-limit.ensures))),
      rw r tt,
    )

pub returns-in_err-reach : goal.returns-in_err-reach
unfolding behind_points_of
returns-in_err-reach c =
    let r : c.from_residual-in_err-reach.result ≡ Err c.in_err-reach.field-0.0 = search rules in (
      passed_on (sheet_in _) r
          (sym (bind_ok _ (sym c.in_ok-limit.ensures)
          ∙ bind_refused _ (sym c.in_err-reach.ensures))),
      rw r tt,
    )

pub returns-in_err-rules : goal.returns-in_err-rules
unfolding behind_points_of
returns-in_err-rules c =
    let r : c.from_residual-in_err-rules.result ≡ Err c.in_err-rules.field-0.0 = search rules in (
      passed_on (sheet_in _) r
          (sym (bind_ok _ (sym c.in_ok-limit.ensures)
          ∙ bind_ok _ (sym c.in_ok-reach.ensures)
          ∙ bind_refused _ (sym c.in_err-rules.ensures.0))),
      rw r tt,
    )

pub returns : goal.returns
unfolding behind_points_of
returns c = (
  sym (bind_ok _ (sym c.in_ok-limit.ensures)
      ∙ bind_ok _ (sym c.in_ok-reach.ensures)
      ∙ bind_ok _ (sym c.in_ok-rules.ensures.0)),
  (c.requires, c.in_ok-rules.ensures.1),
)
