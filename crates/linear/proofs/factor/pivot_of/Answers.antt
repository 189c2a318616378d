-- `pivot_of` meets its contract: the definition's steps, from what each call gives.
use lib.Ieee.{of_bits}
use Rattle.linear.specs.Cholesky.{pivot_of}
use Rattle.linear.proofs.factor.pivot_of.Goals as goal

pub returns-then-definitely_greater : goal.returns-then-definitely_greater
unfolding pivot_of of_bits
returns-then-definitely_greater c = rw (
  ← c.definitely_greater.ensures,
  c.if-definitely_greater.true,
  ← c.sqrt.ensures.value,
) c.root_pivot.ensures

pub returns : goal.returns
unfolding pivot_of of_bits
returns c = rw (← c.definitely_greater.ensures, c.if-definitely_greater.false)
