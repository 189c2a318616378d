-- `print_spelling` meets its contract: what was spelled stays, and of what was refused the error is printed.
use borrow.Author.Tests.{ne_eqb}
use Rattle.sheet.specs.Spelling.{print_spelling_of}
use Rattle.sheet.proofs.SpellingTextLaws.{spelling_printed, error_printed}
use Rattle.sheet.proofs.spelling.print_spelling.Goals as goal

pub returns-then-out-ne-MOST_BYTES : goal.returns-then-out-ne-MOST_BYTES
unfolding print_spelling_of
returns-then-out-ne-MOST_BYTES c = rw (ne_eqb _ _ c.if-out-ne-MOST_BYTES.true)

pub returns-in-Ok : goal.returns-in-Ok
returns-in-Ok c =
    let a = c.args in
    spelling_printed a.text.now a.out.now c.if-out-ne-MOST_BYTES.false c.spell_text.result
    c.spell_text.ensures c.in-Ok.is

pub returns-in-Err : goal.returns-in-Err
returns-in-Err c =
    let a = c.args in
    error_printed a.text.now a.out.now c.if-out-ne-MOST_BYTES.false c.spell_text.result
    c.spell_text.ensures c.in-Err.is c.number.ensures c.spell_text.auto.out
    c.print_error.ensures
