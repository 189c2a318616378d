-- `write_sheet` meets its contract: the bytes are cleared, and the lines are six texts one behind the other.
use Rattle.sheet.proofs.AppendLaws.{then, appends_as, appends_all}
use Rattle.sheet.proofs.SpellingTextLaws.{sheet_spelled}
use Rattle.sheet.proofs.spelling.write_sheet.Goals as goal

pub returns : goal.returns
returns c =
    let p = c.requires in
    let text =
    then c.number_line-first.ensures.1
    (then c.point_texts-second.ensures.1
    (then c.number_line-third.ensures.1
    (then c.number_line-fourth.ensures.1 (then c.number_line-fifth.ensures.1 c.rule_texts.ensures.1)))) in
    rw p.1 at (appends_all c.clear_bytes.ensures (appends_as text (sheet_spelled p.0)))
