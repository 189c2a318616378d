-- `returned_after` meets its contract: the run and the answer, each by its own call.
use borrow.Author.Rules.{rules}
use Rattle.yadzvego.proofs.events.returned_after.Goals as goal

pub returns : goal.returns
returns c = rw (c.run_after.ensures, c.numbers_of.ensures)
