-- `reflect_with` meets its contract: the test on the length decides the arm.
use lib.Ieee.{of_bits}
use Rattle.linear.specs.Householder.{reflect_with}
use Rattle.linear.proofs.Reflections.{with-marks}
use Rattle.linear.proofs.householder.reflect_with.Goals as goal

pub returns-then-definitely_greater : goal.returns-then-definitely_greater
unfolding reflect_with of_bits
returns-then-definitely_greater c =
    rw (
      ← c.definitely_greater.ensures,
      c.if-definitely_greater.true,
      ← c.requires.2,
      ← c.normal.ensures,
    )
    (with-marks c.reflect_by.result c.reflect_by.new.cols
    c.args.left_out.now _ c.reflect_by.ensures)

pub returns : goal.returns
unfolding reflect_with of_bits
returns c = rw (← c.definitely_greater.ensures, c.if-definitely_greater.false)
