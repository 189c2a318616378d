-- `along` meets its contract: the place is the run's, or both are outside the slice.
use mathlib.Core.Path.{◌∙◌}
use native.Mathlib.Omega.{arith}
use Rattle.linear.specs.Flat.{along}
use Rattle.linear.proofs.Walks.{at_cut}
use Rattle.linear.proofs.flat.along.Goals as goal

pub returns : goal.returns
unfolding along
returns c = c.at.ensures ∙ at_cut c.args.xs.now (omega arith)
