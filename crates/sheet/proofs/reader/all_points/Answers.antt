-- `all_points` meets its contract: how many points there are, and the points.
use borrow.Author.Rules.{rules}
use mathlib.Core.Path.{◌≡◌, sym, ◌∙◌}
use Rattle.std.specs.Prelude.{Err}
use Rattle.linear.proofs.Folds.{bind_ok, bind_refused}
use Rattle.sheet.specs.Sheet.{points_key, most_points, all_points_of}
use Rattle.sheet.specs.program.Sheet.{points_in}
use Rattle.sheet.proofs.Tests.{passed_on}
use Rattle.sheet.proofs.SheetLaws.{natural_most}
use Rattle.sheet.proofs.reader.all_points.Goals as goal

pub returns-in_err-count : goal.returns-in_err-count
unfolding all_points_of
returns-in_err-count c =
    let r : c.from_residual.result ≡ Err c.in_err-count.field-0.0 = search rules in (
      passed_on (points_in _) r (sym (bind_refused _ (sym c.in_err-count.ensures))),
      rw r tt,
    )

pub points-requires : goal.points-requires
points-requires c = natural_most points_key 1 most_points _ (sym c.in_ok-count.ensures)

pub returns : goal.returns
unfolding all_points_of
returns c =
    (c.points.ensures.0 ∙ sym (bind_ok _ (sym c.in_ok-count.ensures)), c.points.ensures.1)
