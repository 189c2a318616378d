-- `answers` meets its contract: so many replies are left, and what they lead to is what the first leads to.
use mathlib.Core.Path.{sym, ◌∙◌}
use native.Mathlib.Omega.{arith}
use Rattle.sheet.specs.Settling.{most_replies}
use Rattle.sheet.proofs.SettlingLaws.{answers_turn, answers_over, answers_ended}
use Rattle.sheet.proofs.settling.answers.Goals as goal

pub returns-then-not-is_question : goal.returns-then-not-is_question
returns-then-not-is_question c =
    let v = c.loop.invariant in
    sym (v.3 ∙ answers_over _ _ _ _ (sym c.is_question.ensures ∙ c.if-not-is_question.true))

pub loop-preserved : goal.loop-preserved
loop-preserved c =
    let v = c.loop.invariant in (
      omega arith,
      c.answer-out.auto.rows ∙ v.1,
      c.answer-out.auto.area ∙ v.2,
      answers_turn _ _ most_replies c.loop.counter _ (omega arith)
          (sym c.is_question.ensures ∙ c.if-not-is_question.false) c.answer-out.ensures v.3,
    )

pub returns : goal.returns
returns c =
    let v = c.loop.invariant in
    answers_ended _ _ most_replies c.loop.counter _ (omega arith) v.3
