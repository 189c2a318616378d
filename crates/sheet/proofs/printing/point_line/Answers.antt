-- `point_line` meets its contract: the key, two words with a comma between them and the line's end are five texts one
-- after the other.
use native.Mathlib.Omega.{arith}
use Rattle.sheet.proofs.AppendLaws.{then}
use Rattle.sheet.proofs.printing.point_line.Goals as goal

pub returns : goal.returns
returns c = (
  omega (
    arith,
    c.append.ensures.0,
    c.middle-fourth.ensures.0,
    c.append-third.ensures.0,
    c.middle-second.ensures.0,
    c.append-first.ensures.0,
  ),
  then c.append-first.ensures.1
      (then (then c.middle-second.ensures.1 (then c.append-third.ensures.1 c.middle-fourth.ensures.1))
      c.append.ensures.1),
)
