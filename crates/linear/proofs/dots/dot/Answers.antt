-- `dot` meets its contract: each check decides one of the definition's.
use mathlib.Core.Path.{ap}
use borrow.Author.Tests.{le-leb, lt-leb, eq-eqb, ne_eqb}
use Rattle.interval.specs.Result.{ok}
use Rattle.linear.specs.Calls.{dot_reply}
use Rattle.linear.proofs.dots.dot.Goals as goal

pub returns-then-n-gt24 : goal.returns-then-n-gt24
unfolding dot_reply
returns-then-n-gt24 c = rw (lt-leb _ _ c.if-n-gt24.true)

pub returns-then-a-n : goal.returns-then-a-n
unfolding dot_reply
returns-then-a-n c = rw (le-leb _ _ c.if-n-gt24.false, ne_eqb _ _ c.if-a-n.true)

pub returns-then-b-n : goal.returns-then-b-n
unfolding dot_reply
returns-then-b-n c =
    rw (le-leb _ _ c.if-n-gt24.false, eq-eqb _ _ c.if-a-n.false, ne_eqb _ _ c.if-b-n.true)

pub returns : goal.returns
unfolding dot_reply
returns c = rw (
  le-leb _ _ c.if-n-gt24.false,
  eq-eqb _ _ c.if-a-n.false,
  eq-eqb _ _ c.if-b-n.false,
) (ap ok c.dot_of.ensures)
