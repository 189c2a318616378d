-- `decide` meets its contract: the two tests decide.
use Rattle.run.proofs.AnsweredLaws.{decide_stuck, decide_better, decide_not}
use Rattle.run.proofs.decide.decide.Goals as goal

pub returns-then-is_stuck : goal.returns-then-is_stuck
returns-then-is_stuck c w h =
    let a = c.args in decide_stuck a.st w a.theta a.j
    c.is_stuck.ensures c.if-is_stuck.true
    (c.finish.ensures w h.from-standing.within)

pub returns-then-is_better : goal.returns-then-is_better
returns-then-is_better c w h =
    let a = c.args in
    decide_better a.st w a.theta a.j
    c.is_stuck.ensures
    c.if-is_stuck.false
    c.is_better.ensures c.if-is_better.true
    (c.take.ensures w h)

pub returns : goal.returns
returns c w h =
    let a = c.args in decide_not a.st w
    a.theta a.j c.is_stuck.ensures
    c.if-is_stuck.false
    c.is_better.ensures c.if-is_better.false
    (c.not_lower.ensures w h.from-standing)
