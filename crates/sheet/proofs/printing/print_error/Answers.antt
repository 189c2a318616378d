-- `print_error` meets its contract: the line stands in bytes that are all 0.
use Rattle.sheet.proofs.AppendLaws.{appends_all}
use Rattle.sheet.proofs.printing.print_error.Goals as goal

pub returns : goal.returns
returns c =
    appends_all c.clear_bytes.ensures c.number_line.ensures.1
