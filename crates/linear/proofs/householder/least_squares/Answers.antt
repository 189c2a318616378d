-- `least_squares` meets its contract: each check decides one of the definition's.
use borrow.Author.Tests.{le-leb, lt-leb, eq-eqb, ne_eqb}
use Rattle.linear.specs.Calls.{least_squares_reply}
use Rattle.linear.proofs.householder.least_squares.Goals as goal

pub returns-then-m-gt24 : goal.returns-then-m-gt24
unfolding least_squares_reply
returns-then-m-gt24 c = rw (lt-leb _ _ c.if-m-gt24.true)

pub returns-then-r-gt24 : goal.returns-then-r-gt24
unfolding least_squares_reply
returns-then-r-gt24 c = rw (le-leb _ _ c.if-m-gt24.false, lt-leb _ _ c.if-r-gt24.true)

pub returns-then-rows-m : goal.returns-then-rows-m
unfolding least_squares_reply
returns-then-rows-m c =
    rw (le-leb _ _ c.if-m-gt24.false, le-leb _ _ c.if-r-gt24.false, ne_eqb _ _ c.if-rows-m.true)

pub returns-then-rhs-m : goal.returns-then-rhs-m
unfolding least_squares_reply
returns-then-rhs-m c = rw (
  le-leb _ _ c.if-m-gt24.false,
  le-leb _ _ c.if-r-gt24.false,
  eq-eqb _ _ c.if-rows-m.false,
  ne_eqb _ _ c.if-rhs-m.true,
)

pub returns-then-y-r : goal.returns-then-y-r
unfolding least_squares_reply
returns-then-y-r c = rw (
  le-leb _ _ c.if-m-gt24.false,
  le-leb _ _ c.if-r-gt24.false,
  eq-eqb _ _ c.if-rows-m.false,
  eq-eqb _ _ c.if-rhs-m.false,
  ne_eqb _ _ c.if-y-r.true,
)

pub returns : goal.returns
unfolding least_squares_reply
returns c =
    rw (
      le-leb _ _ c.if-m-gt24.false,
      le-leb _ _ c.if-r-gt24.false,
      eq-eqb _ _ c.if-rows-m.false,
      eq-eqb _ _ c.if-rhs-m.false,
      eq-eqb _ _ c.if-y-r.false,
    ) c.squares_sized.ensures
