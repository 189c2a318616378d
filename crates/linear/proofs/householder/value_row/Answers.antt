-- `value_row` meets its contract: each test decides an arm, and the last is the definition's steps.
use lib.Ieee.{of_bits}
use Rattle.linear.specs.Householder.{value_step}
use Rattle.linear.proofs.householder.value_row.Goals as goal

pub returns-then-left_out-j : goal.returns-then-left_out-j
unfolding value_step
returns-then-left_out-j c = rw c.if-left_out-j.true

pub returns-then-not-definitely_not_equal : goal.returns-then-not-definitely_not_equal
unfolding value_step of_bits
returns-then-not-definitely_not_equal c = rw (
  c.if-left_out-j.false,
  ← c.at-d.ensures,
  ← c.definitely_not_equal.ensures,
  c.if-not-definitely_not_equal.true,
)

pub returns : goal.returns
unfolding value_step of_bits
returns c =
    let s = rw (c.in_column-p.ensures, c.in_row.ensures) at c.minus_dot-known.ensures in
    rw (
      c.if-left_out-j.false,
      ← c.at-d.ensures,
      ← c.definitely_not_equal.ensures,
      c.if-not-definitely_not_equal.false,
      ← c.at-z.ensures,
      ← s,
      ← c.div.ensures.value,
      ← c.chosen_of.ensures,
    )
    c.store.ensures
