-- `altered` meets its contract: the answer is the refusal's.
use borrow.Author.Rules.{rules}
use Rattle.yadzvego.proofs.events.altered.Goals as goal

pub returns : goal.returns
returns c = rw c.asked.ensures
