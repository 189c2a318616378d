-- `dot_of` meets its contract: a run from the start on, by steps of 1, is the slice's own.
use Rattle.linear.proofs.Sums.{along_start}
use Rattle.run.proofs.curvature.dot_of.Goals as goal

pub returns : goal.returns
returns c = rw (along_start, along_start) at c.row_dot.ensures
