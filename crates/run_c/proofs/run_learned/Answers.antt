-- `run_learned` meets its contract: the answer is that of the result.
use mathlib.Core.Path.{◌∙◌, ap}
use Rattle.run_c.specs.Replies.{decision_of}
use borrow.Author.Rules.{rules}
use Rattle.run_c.proofs.run_learned.Goals as goal

pub returns : goal.returns
returns c = c.decision_of.ensures ∙ ap decision_of c.learned.ensures
