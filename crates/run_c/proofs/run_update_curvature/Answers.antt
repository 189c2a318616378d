-- `run_update_curvature` meets its contract: the number is that of how the call beneath ended.
use mathlib.Core.Path.{ap}
use Rattle.yadzvego.specs.Written.{written_of}
use borrow.Author.Rules.{rules}
use Rattle.run_c.proofs.run_update_curvature.Goals as goal

pub returns : goal.returns
returns c = rw c.number_of_done.ensures (ap written_of c.update_curvature.ensures)
