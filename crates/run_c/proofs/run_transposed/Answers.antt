-- `run_transposed` meets its contract: the number is that of how the call beneath ended.
use mathlib.Core.Path.{ap}
use Rattle.yadzvego.specs.Written.{written_of}
use borrow.Author.Rules.{rules}
use Rattle.run_c.proofs.run_transposed.Goals as goal

pub returns : goal.returns
returns c = rw c.number_of_done.ensures (ap written_of c.transposed.ensures)
