-- `land` meets its contract: the standing violation, or its refusal, and then the kind.
use mathlib.Core.Bool.{Bool}
use mathlib.Core.List.{List}
use mathlib.Core.Path.{sym, ap, ◌∙◌}
use Prim.Native.Nat.{ℕ}
use lib.Ieee.{Float}
use Rattle.interval.specs.declared.Scalar.{Scalar}
use Rattle.interval.specs.Scalar.{pick}
use Rattle.linear.specs.LinearResult.{result_of}
use Rattle.run.specs.Area.{Memory}
use Rattle.run.specs.Endings.{AfterSlots}
use Rattle.run.specs.Corrected.{land_trial, land_correction}
use Rattle.run.specs.declared.state.State.{State}
use Rattle.run.proofs.EndingLaws.{or_next, or_refused, unless}
use Rattle.run.proofs.MemoryLaws.{measures}
use Rattle.run.proofs.answered.land.Goals as goal

-- what follows the standing violation
abbrev next : State → Memory → ℕ → List Float → Bool → Scalar → AfterSlots
next st w m rows trial theta = pick trial (land_trial st w m rows theta) (land_correction st w m rows theta)

pub returns-else-trial : goal.returns-else-trial
returns-else-trial c w u r t l =
    let a = c.args in
    let v = c.standing_violation.ensures w u.holds
    r.standing-rows in
    let e = ap result_of c.in-Ok.is in
    let left = c.if-trial.false in
    or_next a.st w (next a.st w a.m a.rows.now a.trial) (sym v ∙ e)
    (unless _ _ left (c.land_correction.ensures w (measures c.args.st u r (sym e ∙ v)) t (l
    left)))

pub returns-in-Err : goal.returns-in-Err
returns-in-Err c w u r t l =
    let a = c.args in
    let v = c.standing_violation.ensures w u.holds r.standing-rows in
    or_refused a.st w (next a.st w a.m a.rows.now a.trial) (sym v ∙ ap result_of c.in-Err.is)
    (c.refuse.ensures w u)
