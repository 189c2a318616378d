-- `read_sheet` meets its contract: the points, and what is behind them.
use borrow.Author.Rules.{rules}
use mathlib.Core.Path.{◌≡◌, sym}
use lib.ListN.{length}
use Rattle.std.specs.Prelude.{Err}
use Rattle.linear.proofs.Folds.{bind_refused}
use Rattle.sheet.specs.Sheet.{sheet_of}
use Rattle.sheet.specs.program.Sheet.{sheet_in}
use Rattle.sheet.proofs.SheetLaws.{sheet_behind}
use Rattle.sheet.proofs.Tests.{passed_on}
use Rattle.sheet.proofs.reader.read_sheet.Goals as goal

pub returns-in_err-points : goal.returns-in_err-points
unfolding sheet_of
returns-in_err-points c =
    let r : c.from_residual.result ≡ Err c.in_err-points.field-0.0 = search rules in (
      passed_on (sheet_in _) r (sym (bind_refused _ (sym c.in_err-points.ensures.0))),
      rw r tt,
    )

pub returns : goal.returns
returns c =
    let p = c.in_ok-points.points in
    let l : length p.coordinates ≡ 12 = search rules in (
      sheet_behind _ p l c.in_ok-points.ensures.1 c.in_ok-points.ensures.0 c.behind_points.ensures.0,
      c.behind_points.ensures.1,
    )
