-- `read` meets its contract: a sheet is no longer than it may be, and nothing follows it.
use borrow.Author.Rules.{rules}
use mathlib.Core.Path.{◌≡◌}
use lib.ListN.{length}
use Rattle.std.specs.Prelude.{Err}
use Rattle.sheet.specs.program.Sheet.{whole_sheet_in}
use Rattle.sheet.proofs.RangeLaws.{read_settles}
use Rattle.sheet.proofs.SheetLaws.{read_long, read_surplus, read_whole, read_fault}
use Rattle.sheet.proofs.Tests.{passed_on}
use Rattle.sheet.proofs.reader.read.Goals as goal

pub returns-then-text-gt-MOST_BYTES : goal.returns-then-text-gt-MOST_BYTES
returns-then-text-gt-MOST_BYTES c = (read_long _ c.if-text-gt-MOST_BYTES.true, tt)

pub returns-in_err-sheet : goal.returns-in_err-sheet
returns-in_err-sheet c =
    let r : c.from_residual.result ≡ Err c.in_err-sheet.field-0.0 = search rules in (
      passed_on whole_sheet_in r
          (read_fault _ c.if-text-gt-MOST_BYTES.false
          c.in_err-sheet.ensures.0),
      rw r tt,
    )

pub returns-then-place-text : goal.returns-then-place-text
returns-then-place-text c =
    (read_surplus _ c.if-text-gt-MOST_BYTES.false c.in_ok-sheet.ensures.0 c.if-place-text.true, tt)

pub returns : goal.returns
returns c =
    let s = c.in_ok-sheet.sheet in
    let e =
    read_whole _ c.if-text-gt-MOST_BYTES.false
    c.in_ok-sheet.ensures.0 c.if-place-text.false in
    let lc : length s.points.coordinates ≡ 12 = search rules in
    let lr : length s.rules.list ≡ 12 = search rules in
    (e, read_settles _ s e c.in_ok-sheet.ensures.1.0 c.in_ok-sheet.ensures.1.1 lc lr)
