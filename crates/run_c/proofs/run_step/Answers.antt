-- `run_step` meets its contract: the answer is that of how the call beneath ended.
use mathlib.Core.Path.{ap}
use Rattle.run_c.specs.Replies.{step_written_of}
use borrow.Author.Rules.{rules}
use Rattle.run_c.proofs.run_step.Goals as goal

pub returns : goal.returns
returns c = rw c.stepped_of.ensures (ap step_written_of c.step_at.ensures)
