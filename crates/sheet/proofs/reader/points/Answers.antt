-- `points` meets its contract: what is still to be read is what the points so far leave.
use borrow.Author.Rules.{rules}
use mathlib.Core.Path.{◌≡◌, sym}
use native.Mathlib.Omega.{arith}
use Rattle.std.specs.Prelude.{Err}
use Rattle.sheet.specs.program.Sheet.{points_in}
use Rattle.sheet.proofs.Tests.{passed_on}
use Rattle.sheet.proofs.ArrayLaws.{points_end, points_more, points_fault}
use Rattle.sheet.proofs.reader.points.Goals as goal

pub returns-in_err-x : goal.returns-in_err-x
returns-in_err-x c =
    let l = c.loop-i in
    let r : c.from_residual.result ≡ Err c.in_err-x.field-0.0 = search rules in (
      passed_on (points_in _) r
          (points_fault c.args.count l.i l.coordinates _ l.invariant.2 c.loop-i-test.true
          (sym c.in_err-x.ensures)),
      rw r tt,
    )

pub loop-i-preserved : goal.loop-i-preserved
loop-i-preserved c =
    let l = c.loop-i in (
      search rules,
      search rules,
      points_more c.args.count l.i l.coordinates _ l.invariant.2
          c.loop-i-test.true
          (omega (arith, l.invariant.1, c.requires, c.loop-i-test.true))
          (sym c.in_ok-x.ensures)
          (search rules) (search rules),
    )

pub returns : goal.returns
returns c =
    let l = c.loop-i in
    (points_end c.args.count l.i l.coordinates _ l.invariant.2 c.loop-i-test.false l.invariant.0, c.requires)
