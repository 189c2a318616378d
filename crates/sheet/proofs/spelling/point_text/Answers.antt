-- `point_text` meets its contract: the key, two numbers with a comma between them and the line's end are five texts one
-- behind the other.
use mathlib.Core.Path.{ap}
use native.Mathlib.Omega.{arith}
use mir.Facts.{to_z-of_z}
use Rattle.sheet.specs.Decimal.{whole_text}
use Rattle.sheet.proofs.AppendLaws.{then, appends_as}
use Rattle.sheet.proofs.spelling.point_text.Goals as goal

pub returns : goal.returns
returns c =
    let x = ap whole_text (to_z-of_z c.ranges.x) in
    let y = ap whole_text (to_z-of_z c.ranges.y) in (
      omega (
        arith,
        c.append.ensures.0,
        c.whole_number-fourth.ensures.0,
        c.append-third.ensures.0,
        c.whole_number-second.ensures.0,
        c.append-first.ensures.0,
      ),
      then c.append-first.ensures.1
          (then
          (then (appends_as c.whole_number-second.ensures.1 x)
          (then c.append-third.ensures.1 (appends_as c.whole_number-fourth.ensures.1 y)))
          c.append.ensures.1),
    )
