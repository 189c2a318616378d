-- `cut` meets its contract: the checks, then the piece.
use mathlib.Core.Path.{◌≡◌}
use native.Mathlib.Omega.{arith}
use lib.ListN.{length}
use borrow.Author.Tests.{le-leb, lt-leb, eq-eqb, ne_eqb}
use Rattle.run.specs.Pieces.{cut_reply}
use Rattle.run.proofs.pieces.cut.Goals as goal

pub returns-then-n-gt-VARIABLES : goal.returns-then-n-gt-VARIABLES
unfolding cut_reply
returns-then-n-gt-VARIABLES c = rw (lt-leb _ _ c.if-n-gt-VARIABLES.true)

pub returns-then-delta-ne-POINT_LEN : goal.returns-then-delta-ne-POINT_LEN
unfolding cut_reply
returns-then-delta-ne-POINT_LEN c = rw (le-leb _ _ c.if-n-gt-VARIABLES.false, ne_eqb _ _ c.if-delta-ne-POINT_LEN.true)

pub returns : goal.returns
unfolding cut_reply
returns c =
    let k = c.cut_within in
    let two = c.if-delta-ne-POINT_LEN.false in
    let size : length k.new.delta ≡ 24 = omega (arith, k.auto, two) in
    rw (
      le-leb _ _ c.if-n-gt-VARIABLES.false,
      eq-eqb _ _
          two,
      ← k.ensures,
    ) (rw size at c.cleared.ensures)
