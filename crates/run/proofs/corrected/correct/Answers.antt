-- `correct` meets its contract: each way out is the definition's.
use Rattle.std.specs.Prelude.{Bool, Result, Ok}
use Rattle.linear.specs.declared.results.LinearError.{LinearError}
use mathlib.Core.Path.{refl, ap, ◌∙◌}
use Rattle.run.specs.program.Corrected.{shifted_of}
use Rattle.run.proofs.AnsweredLaws.{correct_asks, correct_stays, correct_refused}
use Rattle.run.proofs.DecideLaws.{shifted_read}
use Rattle.run.proofs.MemoryLaws.{limits_of}
use Rattle.run.proofs.WriterLaws.{asked_holds}
use Rattle.run.proofs.corrected.correct.Goals as goal

pub returns-in-Ok-false : goal.returns-in-Ok-false
returns-in-Ok-false c w h =
    let a = c.args in
    correct_stays a.st w a.theta refl
    (shifted_read a.st h c.landed_counts.ensures c.landed_counts-2.ensures c.landed_rows.ensures
    c.landed_point.ensures c.shift_from-shifted.ensures)
    (ap (λ (r : Result Bool LinearError). shifted_of r c.shift_from-shifted.new.next)
    (c.in-Ok-false.is ∙ ap Ok c.in-Ok-false.field-0-test))
    (c.judge_landed.ensures w h)

pub returns-in-Err : goal.returns-in-Err
returns-in-Err c w h =
    let a = c.args in
    correct_refused a.st w a.theta refl
    (shifted_read a.st h c.landed_counts.ensures c.landed_counts-2.ensures c.landed_rows.ensures
    c.landed_point.ensures c.shift_from-shifted.ensures)
    (ap (λ (r : Result Bool LinearError). shifted_of r c.shift_from-shifted.new.next) c.in-Err.is)
    (c.refuse.ensures w h.from-standing.within)

pub returns-in-Ok-true : goal.returns-in-Ok-true
returns-in-Ok-true c w h =
    let a = c.args in
    let x = c.shift_from-shifted in
    let next = x.new.next in
    correct_asks a.st w a.theta refl
    (shifted_read a.st h c.landed_counts.ensures c.landed_counts-2.ensures c.landed_rows.ensures
    c.landed_point.ensures c.shift_from-shifted.ensures)
    (ap (λ (r : Result Bool LinearError). shifted_of r next) (c.in-Ok-true.is ∙ ap Ok c.in-Ok-true.field-0-test))
    (c.ask.ensures _ _
    (asked_holds a.st (limits_of c.requires.1.bounded) w h.from-standing.within next x.auto.next
    c.write_asked.ensures))
