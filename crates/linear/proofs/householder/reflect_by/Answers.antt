-- `reflect_by` meets its contract: the test on v · v decides the arm.
use lib.Ieee.{of_bits}
use Rattle.linear.specs.Householder.{reflect_by}
use Rattle.linear.proofs.householder.reflect_by.Goals as goal

pub returns-then-definitely_greater : goal.returns-then-definitely_greater
unfolding reflect_by of_bits
returns-then-definitely_greater c = rw (
  ← c.dot_of.ensures,
  ← c.choose-vv.ensures,
  ← c.definitely_greater.ensures,
  c.if-definitely_greater.true,
) c.reflect_all.ensures

pub returns : goal.returns
unfolding reflect_by of_bits
returns c = rw (
  ← c.dot_of.ensures,
  ← c.choose-vv.ensures,
  ← c.definitely_greater.ensures,
  c.if-definitely_greater.false,
)
