-- `print_returned` meets its contract: each event has its lines.
use Rattle.sheet.proofs.SettlingLaws.{point_few}
use Rattle.sheet.proofs.settling.print_returned.Goals as goal

pub print_finish-requires : goal.print_finish-requires
print_finish-requires c = (
  c.requires,
  rw
      c.point.ensures (point_few _ _),
)
