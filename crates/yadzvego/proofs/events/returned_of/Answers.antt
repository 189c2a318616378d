-- `returned_of` meets its contract: the run and the answer, each by its own call.
use borrow.Author.Rules.{rules}
use Rattle.yadzvego.proofs.events.returned_of.Goals as goal

pub returns : goal.returns
returns c = rw (c.c_state_of.ensures, c.numbers_of.ensures)
