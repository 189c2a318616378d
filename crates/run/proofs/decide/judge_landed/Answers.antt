-- `judge_landed` meets its contract: the judgement decides, or is refused.
use mathlib.Core.Path.{sym, ap, ◌∙◌}
use Rattle.run.specs.program.Judgement.{judgement_of}
use Rattle.run.proofs.AnsweredLaws.{judge_known, judge_refused}
use Rattle.run.proofs.decide.judge_landed.Goals as goal

pub returns-in-Ok : goal.returns-in-Ok
returns-in-Ok c w h =
    let a = c.args in
    let e = sym (c.judge_in.ensures w h) ∙ ap judgement_of
    c.in-Ok.is in
    judge_known a.st w a.theta e (c.decide.ensures w h)

pub returns-in-Err : goal.returns-in-Err
returns-in-Err c w h =
    let a = c.args in
    let e = sym (c.judge_in.ensures w h) ∙ ap judgement_of
    c.in-Err.is in
    judge_refused a.st w a.theta e (c.refuse.ensures w h.from-standing.within)
