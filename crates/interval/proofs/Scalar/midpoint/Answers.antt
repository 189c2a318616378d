-- `midpoint` meets its contract.
use lib.Ieee.{of_bits}
use Rattle.interval.proofs.Scalar.midpoint.Goals as goal

pub returns : goal.returns
unfolding of_bits
returns c = c.degenerate.ensures
