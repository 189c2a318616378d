-- `answer` meets its contract: each branch is the call of `run`.
use borrow.Author.Rules.{rules}
use Rattle.call_list.proofs.answer.Goals as goal

pub returns-then-none : goal.returns-then-none
returns-then-none c = rw c.if-none.true c.reply_none.ensures

pub returns : goal.returns
returns c = rw c.if-none.false c.reply.ensures
