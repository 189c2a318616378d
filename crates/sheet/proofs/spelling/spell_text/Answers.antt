-- `spell_text` meets its contract: the length is checked first, then the sheet that was read is written.
use mathlib.Core.Path.{◌≡◌, sym, ap, ◌∙◌}
use borrow.Author.Rules.{rules}
use borrow.Author.Tests.{eq-eqb, ne_eqb}
use Rattle.std.specs.Prelude.{Err}
use Rattle.sheet.specs.Spelling.{after_spelling, returned_in, spell_text_of, spelled_sheet, spelling_of}
use Rattle.sheet.specs.program.Sheet.{sheet_by}
use Rattle.sheet.proofs.SpellingTextLaws.{written_as}
use Rattle.sheet.proofs.spelling.spell_text.Goals as goal

pub returns-then-out-ne-MOST_BYTES : goal.returns-then-out-ne-MOST_BYTES
unfolding spell_text_of
returns-then-out-ne-MOST_BYTES c = rw (ne_eqb _ _ c.if-out-ne-MOST_BYTES.true)

pub returns-in_err-sheet : goal.returns-in_err-sheet
unfolding spell_text_of
returns-in_err-sheet c =
    let r : c.from_residual.result ≡ Err c.in_err-sheet.field-0.0 = search rules in
    rw (eq-eqb _ _ c.if-out-ne-MOST_BYTES.false)
    (ap (λ x. after_spelling (returned_in x) c.args.out.now) r
    ∙ sym (ap (spelled_sheet c.args.out.now) (sym c.in_err-sheet.ensures.0)))

pub returns : goal.returns
unfolding spell_text_of
returns c =
    rw (eq-eqb _ _ c.if-out-ne-MOST_BYTES.false)
    (written_as (spelling_of (sheet_by c.in_ok-sheet.sheet)) c.write_sheet.ensures
    ∙ sym (ap (spelled_sheet c.args.out.now) (sym c.in_ok-sheet.ensures.0)))
