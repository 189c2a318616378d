-- `minus_solved` meets its contract: each check decides one of the definition's.
use borrow.Author.Tests.{le-leb, lt-leb, eq-eqb, ne_eqb}
use Rattle.linear.specs.Calls.{minus_solved_reply}
use Rattle.linear.proofs.solved.minus_solved.Goals as goal

pub returns-then-m-gt24 : goal.returns-then-m-gt24
unfolding minus_solved_reply
returns-then-m-gt24 c = rw (lt-leb _ _ c.if-m-gt24.true)

pub returns-then-n-gt24 : goal.returns-then-n-gt24
unfolding minus_solved_reply
returns-then-n-gt24 c = rw (le-leb _ _ c.if-m-gt24.false, lt-leb _ _ c.if-n-gt24.true)

pub returns-then-jc-m : goal.returns-then-jc-m
unfolding minus_solved_reply
returns-then-jc-m c =
    rw (le-leb _ _ c.if-m-gt24.false, le-leb _ _ c.if-n-gt24.false, ne_eqb _ _ c.if-jc-m.true)

pub returns-then-rhs-m : goal.returns-then-rhs-m
unfolding minus_solved_reply
returns-then-rhs-m c = rw (
  le-leb _ _ c.if-m-gt24.false,
  le-leb _ _ c.if-n-gt24.false,
  eq-eqb _ _ c.if-jc-m.false,
  ne_eqb _ _ c.if-rhs-m.true,
)

pub returns-then-from-n : goal.returns-then-from-n
unfolding minus_solved_reply
returns-then-from-n c = rw (
  le-leb _ _ c.if-m-gt24.false,
  le-leb _ _ c.if-n-gt24.false,
  eq-eqb _ _ c.if-jc-m.false,
  eq-eqb _ _ c.if-rhs-m.false,
  ne_eqb _ _ c.if-from-n.true,
)

pub returns-then-out-n : goal.returns-then-out-n
unfolding minus_solved_reply
returns-then-out-n c = rw (
  le-leb _ _ c.if-m-gt24.false,
  le-leb _ _ c.if-n-gt24.false,
  eq-eqb _ _ c.if-jc-m.false,
  eq-eqb _ _ c.if-rhs-m.false,
  eq-eqb _ _ c.if-from-n.false,
  ne_eqb _ _ c.if-out-n.true,
)

pub returns : goal.returns
unfolding minus_solved_reply
returns c =
    rw (
      le-leb _ _ c.if-m-gt24.false,
      le-leb _ _ c.if-n-gt24.false,
      eq-eqb _ _ c.if-jc-m.false,
      eq-eqb _ _ c.if-rhs-m.false,
      eq-eqb _ _ c.if-from-n.false,
      eq-eqb _ _ c.if-out-n.false,
    ) c.solved_sized.ensures
