-- `settle_text` meets its contract: the lengths are checked first, then what was found is printed, and the area is
-- cleared.
use Rattle.sheet.proofs.SettlingLaws.{text_settled, area_refused, slot_refused}
use Rattle.sheet.proofs.settling.settle_text.Goals as goal

pub returns-then-area-ne-AREA : goal.returns-then-area-ne-AREA
returns-then-area-ne-AREA c = area_refused _ _ _ c.if-area-ne-AREA.true

pub returns-then-slot-ne-SLOT : goal.returns-then-slot-ne-SLOT
returns-then-slot-ne-SLOT c = slot_refused _ _ _ c.if-slot-ne-SLOT.true

pub returns : goal.returns
returns c =
    let length-kept = c.print_found.auto.area in
    text_settled c.args.text.now c.args.area.now c.args.slot.now
    c.read.result
    c.print_found.new.area c.if-area-ne-AREA.false
    c.if-slot-ne-SLOT.false
    c.read.ensures.0
    c.print_found.ensures
    c.clear.ensures length-kept
