-- `learned` meets its contract: each check decides one of the definition's.
use mathlib.Core.Path.{ap}
use Rattle.interval.specs.Result.{ok}
use borrow.Author.Tests.{le-leb, lt-leb, eq-eqb, ne_eqb}
use Rattle.run.specs.Pieces.{learned_reply}
use Rattle.run.proofs.pieces.learned.Goals as goal

pub returns-then-n-gt-VARIABLES : goal.returns-then-n-gt-VARIABLES
unfolding learned_reply
returns-then-n-gt-VARIABLES c = rw (lt-leb _ _ c.if-n-gt-VARIABLES.true)

pub returns-then-b-ne-CURVATURE_LEN : goal.returns-then-b-ne-CURVATURE_LEN
unfolding learned_reply
returns-then-b-ne-CURVATURE_LEN c = rw (le-leb _ _ c.if-n-gt-VARIABLES.false, ne_eqb _ _ c.if-b-ne-CURVATURE_LEN.true)

pub returns : goal.returns
unfolding learned_reply
returns c =
    rw (le-leb _ _ c.if-n-gt-VARIABLES.false, eq-eqb _ _ c.if-b-ne-CURVATURE_LEN.false) (ap ok c.learned.ensures)
