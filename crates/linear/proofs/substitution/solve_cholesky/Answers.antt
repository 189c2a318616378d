-- `solve_cholesky` meets its contract: each check decides one of the definition's.
use borrow.Author.Tests.{le-leb, lt-leb, eq-eqb, ne_eqb}
use Rattle.linear.specs.Calls.{solve_reply}
use Rattle.linear.proofs.substitution.solve_cholesky.Goals as goal

pub returns-then-n-gt24 : goal.returns-then-n-gt24
unfolding solve_reply
returns-then-n-gt24 c = rw (lt-leb _ _ c.if-n-gt24.true)

pub returns-then-l-n : goal.returns-then-l-n
unfolding solve_reply
returns-then-l-n c = rw (le-leb _ _ c.if-n-gt24.false, ne_eqb _ _ c.if-l-n.true)

pub returns-then-left_out-n : goal.returns-then-left_out-n
unfolding solve_reply
returns-then-left_out-n c =
    rw (le-leb _ _ c.if-n-gt24.false, eq-eqb _ _ c.if-l-n.false, ne_eqb _ _ c.if-left_out-n.true)

pub returns-then-b-n : goal.returns-then-b-n
unfolding solve_reply
returns-then-b-n c = rw (
  le-leb _ _ c.if-n-gt24.false,
  eq-eqb _ _ c.if-l-n.false,
  eq-eqb _ _ c.if-left_out-n.false,
  ne_eqb _ _ c.if-b-n.true,
)

pub returns-then-x-n : goal.returns-then-x-n
unfolding solve_reply
returns-then-x-n c =
    rw (
      le-leb _ _ c.if-n-gt24.false,
      eq-eqb _ _ c.if-l-n.false,
      eq-eqb _ _ c.if-left_out-n.false,
      eq-eqb _ _ c.if-b-n.false,
      ne_eqb _ _ c.if-x-n.true,
    )

pub returns : goal.returns
unfolding solve_reply
returns c =
    rw (
      le-leb _ _ c.if-n-gt24.false,
      eq-eqb _ _ c.if-l-n.false,
      eq-eqb _ _ c.if-left_out-n.false,
      eq-eqb _ _ c.if-b-n.false,
      eq-eqb _ _ c.if-x-n.false,
    )
    c.solve_sized.ensures
