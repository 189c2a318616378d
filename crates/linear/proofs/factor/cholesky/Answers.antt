-- `cholesky` meets its contract: each check decides one of the definition's.
use borrow.Author.Tests.{le-leb, lt-leb, eq-eqb, ne_eqb}
use Rattle.linear.specs.Calls.{cholesky_reply}
use Rattle.linear.proofs.factor.cholesky.Goals as goal

pub returns-then-n-gt24 : goal.returns-then-n-gt24
unfolding cholesky_reply
returns-then-n-gt24 c = rw (lt-leb _ _ c.if-n-gt24.true)

pub returns-then-a-n : goal.returns-then-a-n
unfolding cholesky_reply
returns-then-a-n c = rw (le-leb _ _ c.if-n-gt24.false, ne_eqb _ _ c.if-a-n.true)

pub returns-then-l-n : goal.returns-then-l-n
unfolding cholesky_reply
returns-then-l-n c =
    rw (le-leb _ _ c.if-n-gt24.false, eq-eqb _ _ c.if-a-n.false, ne_eqb _ _ c.if-l-n.true)

pub returns-then-left_out-n : goal.returns-then-left_out-n
unfolding cholesky_reply
returns-then-left_out-n c = rw (
  le-leb _ _ c.if-n-gt24.false,
  eq-eqb _ _ c.if-a-n.false,
  eq-eqb _ _ c.if-l-n.false,
  ne_eqb _ _ c.if-left_out-n.true,
)

pub returns : goal.returns
unfolding cholesky_reply
returns c =
    rw (
      le-leb _ _ c.if-n-gt24.false,
      eq-eqb _ _ c.if-a-n.false,
      eq-eqb _ _ c.if-l-n.false,
      eq-eqb _ _ c.if-left_out-n.false,
    ) c.factor_sized.ensures
