-- `print_finish` meets its contract: its lines stand one after the other in bytes that are all 0.
use Rattle.sheet.proofs.AppendLaws.{then, appends_all}
use Rattle.sheet.proofs.printing.print_finish.Goals as goal

pub returns : goal.returns
returns c =
    let lines = then c.stop_line-first.ensures.1
    (then c.number_line-second.ensures.1 (then c.number_line-third.ensures.1 c.point_lines.ensures.1)) in
    (appends_all (rw c.requires.0 at c.clear_bytes.ensures) lines).1
