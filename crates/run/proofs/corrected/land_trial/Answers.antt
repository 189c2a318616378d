-- `land_trial` meets its contract: the violation where it landed decides, or is refused.
use mathlib.Core.Path.{sym, ap, ◌∙◌}
use Rattle.linear.specs.LinearResult.{result_of}
use Rattle.run.proofs.AnsweredLaws.{landed_with, trial_known, trial_refused}
use Rattle.run.proofs.DecideLaws.{lands, landed_known}
use Rattle.run.proofs.MemoryLaws.{works_as, judges_as}
use Rattle.run.proofs.corrected.land_trial.Goals as goal

pub returns-in-Ok : goal.returns-in-Ok
returns-in-Ok c w h t =
    let a = c.args in
    let many = c.requires.whole_rows in
    let n = c.with_landed-t.ensures in
    let x = landed_with w a.rows.now in
    let held = c.write_landed.ensures w h.within t in
    let v = rw c.row_counts.ensures at
    c.violation-landed.ensures in
    let e = ap result_of c.in-Ok.is in
    let known = landed_known a.st a.m 0 a.rows.now w.step many t.step h t held (sym e ∙ v) in
    trial_known a.st w a.m a.rows.now a.theta n (sym v ∙ e)
    c.definitely_greater.ensures
    (c.correct_or_judge.ensures x (judges_as n known))

pub returns-in-Err : goal.returns-in-Err
returns-in-Err c w h t =
    let a = c.args in
    let n = c.with_landed-t.ensures in
    let held = c.write_landed.ensures w h.within t in
    let v = rw c.row_counts.ensures at
    c.violation-landed.ensures in
    trial_refused a.st w a.m a.rows.now a.theta n
    (sym v ∙ ap result_of c.in-Err.is)
    (c.refuse.ensures (landed_with w a.rows.now)
    (works_as n (lands a.st a.m 0 a.rows.now w.step c.requires.whole_rows t.step h.within held)))
