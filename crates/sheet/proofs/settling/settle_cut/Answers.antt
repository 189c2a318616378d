-- `settle_cut` meets its contract: the run from the sheet's coordinates, which aims at them, is printed.
use mathlib.Core.Path.{ap, ◌∙◌}
use Rattle.sheet.specs.Printing.{padded}
use Rattle.sheet.specs.program.Sheet.{sheet_by}
use Rattle.sheet.proofs.SettlingLaws.{settled_printed}
use Rattle.sheet.proofs.settling.settle_cut.Goals as goal

pub returns : goal.returns
returns c =
    c.print_returned.ensures
    ∙ ap padded (settled_printed (sheet_by c.args.sheet) c.args.area.now _ c.requires.3
    c.point_at.ensures c.settle_from-out.ensures)
