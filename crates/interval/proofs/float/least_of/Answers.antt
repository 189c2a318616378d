-- `least_of` meets its contract: the fold by min is a fold of plain choices.
use lib.Ieee.{of_bits, div}
use Rattle.interval.proofs.MinMax.{least_is}
use Rattle.interval.proofs.float.least_of.Goals as goal

pub returns : goal.returns
unfolding of_bits div
returns c = rw (least_is) cc
