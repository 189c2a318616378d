-- `land_correction` meets its contract: whether its rows are nearer decides, or that is refused.
use Rattle.std.specs.Prelude.{Ok}
use mathlib.Core.Bool.{Bool}
use mathlib.Core.List.{List}
use mathlib.Core.Path.{◌≡◌, ap, ◌∙◌}
use Prim.Native.Nat.{ℕ}
use lib.Ieee.{Float}
use Rattle.interval.specs.declared.Scalar.{Scalar}
use Rattle.interval.specs.Scalar.{pick}
use Rattle.linear.specs.LinearResult.{result_of}
use Rattle.run.specs.Area.{Memory, rows_at}
use Rattle.run.specs.Endings.{AfterSlots}
use Rattle.run.specs.Corrected.{keep}
use Rattle.run.specs.Decide.{judge}
use Rattle.run.specs.Residuals.{violation_of}
use Rattle.run.specs.Results.{truth_of}
use Rattle.run.specs.declared.state.State.{State}
use Rattle.run.proofs.AnsweredLaws.{correction_by, nearer_read}
use Rattle.run.proofs.EndingLaws.{or_next, or_refused}
use Rattle.run.proofs.MemoryLaws.{compares}
use Rattle.run.proofs.corrected.land_correction.Goals as goal

-- what follows the test
abbrev next : State → Memory → ℕ → List Float → Scalar → Bool → AfterSlots
next st w m rows theta kept = pick kept (keep st w m rows theta) (judge st w theta)

pub returns-in-Ok-true : goal.returns-in-Ok-true
returns-in-Ok-true c w h t l =
    let a = c.args in
    let new : result_of c.violation-new.result ≡ violation_of (rows_at a.st a.m a.rows.now).constraints =
    rw c.row_counts.ensures at c.violation-new.ensures in
    let old = c.landed_violation-old.ensures w h.within.holds l.landed-rows in
    let e = nearer_read c.is_nearer.ensures new old
    ∙ ap truth_of (c.in-Ok-true.is ∙ ap Ok c.in-Ok-true.field-0-test) in
    correction_by a.st w a.m a.rows.now a.theta
    (or_next a.st w (next a.st w a.m a.rows.now a.theta) e (c.keep.ensures w h t l new))

pub returns-in-Ok-false : goal.returns-in-Ok-false
returns-in-Ok-false c w h t l =
    let a = c.args in
    let new : result_of c.violation-new.result ≡ violation_of (rows_at a.st a.m a.rows.now).constraints =
    rw c.row_counts.ensures at c.violation-new.ensures in
    let old = c.landed_violation-old.ensures w h.within.holds l.landed-rows in
    let e = nearer_read c.is_nearer.ensures new old
    ∙ ap truth_of (c.in-Ok-false.is ∙ ap Ok c.in-Ok-false.field-0-test) in
    correction_by a.st w a.m a.rows.now a.theta
    (or_next a.st w (next a.st w a.m a.rows.now a.theta) e
    (c.judge_landed.ensures w (compares a.st h.within h.standing_whole t l h.standing_is old)))

pub returns-in-Err : goal.returns-in-Err
returns-in-Err c w h t l =
    let a = c.args in
    let old = c.landed_violation-old.ensures w h.within.holds l.landed-rows in
    let new : result_of c.violation-new.result ≡ violation_of (rows_at a.st a.m a.rows.now).constraints =
    rw c.row_counts.ensures at c.violation-new.ensures in
    let e = nearer_read c.is_nearer.ensures new old ∙ ap truth_of c.in-Err.is in
    correction_by a.st w a.m a.rows.now a.theta
    (or_refused a.st w (next a.st w a.m a.rows.now a.theta) e (c.refuse.ensures w h.within))
