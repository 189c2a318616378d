-- `call` meets its contract: lent the area, or no numbers of it, which stay none.
use Rattle.call_list.proofs.CallLaws.{called_same, called_none}
use borrow.Author.Rules.{rules}
use Rattle.call_list.proofs.call.Goals as goal

pub returns-then-code-eq0 : goal.returns-then-code-eq0
returns-then-code-eq0 c =
    called_same _ _ _ _ _ _ _ c.if-code-eq0.true c.answer.ensures

pub returns : goal.returns
returns c = called_none _ _ _ _ _ _ _ c.if-code-eq0.false
    c.answer-2.auto.area c.answer-2.ensures
