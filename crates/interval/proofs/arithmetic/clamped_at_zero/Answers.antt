-- `clamped_at_zero` meets its contract.
use lib.Ieee.{of_bits}
use Rattle.interval.specs.Scalar.{clamped}
use Rattle.interval.proofs.arithmetic.clamped_at_zero.Goals as goal

pub returns-then-x : goal.returns-then-x
unfolding clamped of_bits
returns-then-x c = simp c.if-x.true

pub returns : goal.returns
unfolding clamped of_bits
returns c = simp c.if-x.false
