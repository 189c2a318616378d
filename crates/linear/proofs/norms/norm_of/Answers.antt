-- `norm_of` meets its contract: the test on the greatest size decides the arm.
use mathlib.Core.Path.{sym, ◌∙◌}
use lib.Ieee.{of_bits}
use Rattle.linear.specs.Flat.{at}
use Rattle.linear.specs.Norm.{norm_of}
use Rattle.linear.proofs.NormSquares.{some_size}
use Rattle.linear.proofs.norms.norm_of.Goals as goal

pub scaled_squares-requires : goal.scaled_squares-requires
unfolding of_bits
scaled_squares-requires c =
    let a = c.args in
    some_size (at a.v.now) a.n
    (rw (← c.largest-g.ensures) (sym c.definitely_greater.ensures ∙ c.if-definitely_greater.true))

pub returns-then-definitely_greater : goal.returns-then-definitely_greater
unfolding norm_of of_bits
returns-then-definitely_greater c =
    rw (
      ← c.largest-g.ensures,
      ← c.definitely_greater.ensures,
      c.if-definitely_greater.true,
      ← c.scaled_squares.ensures,
    ) c.scaled_root.ensures

pub returns : goal.returns
unfolding norm_of of_bits
returns c =
    rw (
      ← c.largest-g.ensures,
      ← c.definitely_greater.ensures,
      c.if-definitely_greater.false,
      ← c.dot_of.ensures,
    ) c.sqrt.ensures.value
