-- `answer` meets its contract: the rows are the definition's, and a refusal by 3 leaves the area for the reply with
-- none.
use mathlib.Core.Path.{sym, ◌∙◌}
use Rattle.sheet.specs.program.Sheet.{sheet_by}
use Rattle.sheet.proofs.SettlingLaws.{answer_rows, answer_none}
use Rattle.sheet.proofs.settling.answer.Goals as goal

pub returns-then-is_outside : goal.returns-then-is_outside
returns-then-is_outside c =
    let a = c.args in
    c.reply_none.ensures
    ∙ answer_none (sheet_by a.sheet) a.aims.now a.st a.area.now _
    (rw (c.point.ensures, ← c.requires.settles.all_coordinates) at c.rows_at.ensures) (sym c.requires.settles.all_rules) c.reply-out.ensures
    (sym c.is_outside.ensures ∙ c.if-is_outside.true)

pub returns : goal.returns
returns c =
    let a = c.args in
    answer_rows (sheet_by a.sheet) a.aims.now a.st a.area.now _
    (rw (c.point.ensures, ← c.requires.settles.all_coordinates) at c.rows_at.ensures) (sym c.requires.settles.all_rules) c.reply-out.ensures
    (sym c.is_outside.ensures ∙ c.if-is_outside.false)
