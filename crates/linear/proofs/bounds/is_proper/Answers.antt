-- `is_proper` meets its contract: each test is the definition's.
use lib.Ieee.{of_bits, div, neg}
use Rattle.linear.proofs.bounds.is_proper.Goals as goal

pub returns-then-b : goal.returns-then-b
unfolding of_bits div neg
returns-then-b c = rw c.if-b.true

pub returns-else-b : goal.returns-else-b
unfolding of_bits div neg
returns-else-b c = rw c.if-b.false
