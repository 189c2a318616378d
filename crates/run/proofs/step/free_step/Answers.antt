-- `free_step` meets its contract: the weights along the directions decide, then whether the step and what pulls against
-- it are finite; the multipliers end it.
use Rattle.std.proofs.lemmas.Result.{err_from_is_err_and}
use mathlib.Core.Path.{sym, ap, ◌∙◌}
use native.Mathlib.Omega.{arith}
use Rattle.linear.specs.LinearResult.{done_of}
use Rattle.linear.specs.Results.{bind}
use Rattle.run.specs.program.Step.{with_multipliers}
use Rattle.run.proofs.BasisLaws.{multipliers_reads, multipliers_part}
use Rattle.run.proofs.StepLaws.{free_step_lem, stepped_not, stepped_on}
use Rattle.run.proofs.step.free_step.Goals as goal

pub returns-in_err-is_positive : goal.returns-in_err-is_positive
unfolding bind
returns-in_err-is_positive c =
    let p = err_from_is_err_and c.from_residual.result c.from_residual.ensures.1 in
    rw (p.1, p.2) (free_step_lem _ _ _ _ (rw c.in_err-is_positive.was at c.free_part.ensures))

pub returns-then-not-is_positive : goal.returns-then-not-is_positive
unfolding bind
returns-then-not-is_positive c =
    free_step_lem _ _ _ _
    (rw c.if-not-is_positive.true at (rw c.in_ok-is_positive.was at c.free_part.ensures))

pub returns-then-not-finite_pull : goal.returns-then-not-finite_pull
unfolding bind
returns-then-not-finite_pull c =
    let e = c.finite_pull.ensures in
    stepped_not _ _ _ e.0 e.1 c.if-not-finite_pull.true
    ∙ free_step_lem _ _ _ _
    (rw c.if-not-is_positive.false at (rw c.in_ok-is_positive.was at c.free_part.ensures))

pub returns-in_err-multipliers : goal.returns-in_err-multipliers
unfolding bind with_multipliers
returns-in_err-multipliers c =
    let a = c.args in
    let p = c.requires in
    let e = c.finite_pull.ensures in
    let m = c.multipliers.ensures
    ∙ multipliers_part a.d.kept a.d.independent a.factors.now _ p.0.few_kept p.0.few_independent
    (omega (arith, p.1.factors_length)) a.order.now
    ∙ multipliers_reads _ _ _ in
    let x =
    err_from_is_err_and c.from_residual-in_err-multipliers.result c.from_residual-in_err-multipliers.ensures.1 in
    rw (x.1, x.2)
    (ap (λ d. with_multipliers c.free_part.new.delta a.d.independent (done_of d c.multipliers.new.lambda))
    (sym c.in_err-multipliers.was)
    ∙ stepped_on _ _ _ e.0 e.1 c.if-not-finite_pull.false m
    ∙ free_step_lem _ _ _ _
    (rw c.if-not-is_positive.false at (rw c.in_ok-is_positive.was at c.free_part.ensures)))

pub returns : goal.returns
unfolding bind with_multipliers
returns c =
    let a = c.args in
    let p = c.requires in
    let e = c.finite_pull.ensures in
    let m = c.multipliers.ensures
    ∙ multipliers_part a.d.kept a.d.independent a.factors.now _ p.0.few_kept p.0.few_independent
    (omega (arith, p.1.factors_length)) a.order.now
    ∙ multipliers_reads _ _ _ in
    ap (λ d. with_multipliers c.free_part.new.delta a.d.independent (done_of d c.multipliers.new.lambda))
    (sym c.in_ok-multipliers.was)
    ∙ stepped_on _ _ _ e.0 e.1 c.if-not-finite_pull.false m
    ∙ free_step_lem _ _ _ _
    (rw c.if-not-is_positive.false at (rw c.in_ok-is_positive.was at c.free_part.ensures))
