-- `greatest_of` meets its contract: the fold by max is a fold of plain choices.
use lib.Ieee.{of_bits, div, neg}
use Rattle.interval.proofs.MinMax.{greatest_is}
use Rattle.interval.proofs.float.greatest_of.Goals as goal

pub returns : goal.returns
unfolding of_bits div neg
returns c = rw (greatest_is) cc
