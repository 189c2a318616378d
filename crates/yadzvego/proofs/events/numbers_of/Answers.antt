-- `numbers_of` meets its contract: each arm is given the answer that it binds.
use borrow.Author.Rules.{rules}
use Rattle.yadzvego.proofs.events.numbers_of.Goals as goal

pub returns-in-Question : goal.returns-in-Question
returns-in-Question c = rw (c.in-Question.is, c.asked.ensures, c.kind_number.ensures)

pub returns-in-Finish : goal.returns-in-Finish
returns-in-Finish c = rw (c.in-Finish.is, c.finished.ensures, c.ending_of.ensures)

pub returns-in-Refused : goal.returns-in-Refused
returns-in-Refused c = rw (c.in-Refused.is, c.asked-in-Refused.ensures, c.from.ensures)
