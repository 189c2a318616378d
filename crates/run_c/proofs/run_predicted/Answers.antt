-- `run_predicted` meets its contract: the answer is that of the result.
use mathlib.Core.Path.{◌∙◌, ap}
use Rattle.yadzvego.specs.ScalarResult.{scalar_result_of}
use borrow.Author.Rules.{rules}
use Rattle.run_c.proofs.run_predicted.Goals as goal

pub returns : goal.returns
returns c = c.scalar_result_of.ensures ∙ ap scalar_result_of c.predicted.ensures
