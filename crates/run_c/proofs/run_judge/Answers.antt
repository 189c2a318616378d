-- `run_judge` meets its contract: the answer is that of the result.
use mathlib.Core.Path.{◌∙◌, ap}
use Rattle.run_c.specs.Replies.{judged_of}
use borrow.Author.Rules.{rules}
use Rattle.run_c.proofs.run_judge.Goals as goal

pub returns : goal.returns
returns c = rw (← c.last_of.ensures) (c.judged_of.ensures ∙ ap judged_of c.judge.ensures)
