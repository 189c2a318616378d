-- `propose` meets its contract: each arm is the definition's.
use Rattle.std.proofs.lemmas.Result.{err_from_is_err_and}
use Rattle.std.specs.Prelude.{ℕ, Option, Result, Ok}
use Rattle.linear.specs.declared.results.LinearError.{LinearError}
use mathlib.Core.Path.{◌≡◌, sym, ap, ◌∙◌}
use mathlib.Core.List.{List}
use lib.Ieee.{Float}
use Rattle.interval.specs.Result.{Res, ok}
use Rattle.run.specs.Proposal.{Standing, expects_of}
use Rattle.run.specs.Results.{truth_of}
use Rattle.run.specs.Step.{Step, Stepped, found, not_positive}
use Rattle.run.specs.program.Proposal.{standing_in}
use Rattle.run.specs.program.Step.{end_of}
use Rattle.run.proofs.ProposalLaws.{expects_reads, within_reads, proposal_refused, proposal_by}
use Rattle.run.proofs.ProposalLaws.{proposed_refused, proposed_drop, proposed_not}
use Rattle.run.proofs.proposal.propose.Goals as goal

-- the definition's step, from how the step ended
stepped : (raw lambda : List Float) {got r : Result (Option ℕ) LinearError} {x y : Res Stepped}
    → end_of got raw lambda ≡ x → x ≡ y → got ≡ r
    → y ≡ end_of r raw lambda
stepped raw lambda eg es er = sym (eg ∙ es) ∙ ap (λ (s : Result (Option ℕ) LinearError). end_of s raw lambda) er

pub returns-then-drop : goal.returns-then-drop
returns-then-drop c =
    let a = c.args in
    let from : Standing = standing_in a.origin a.area.now in
    let raw = c.damped_step.new.delta in
    let lambda = c.damped_step.new.lambda in
    let x : Step = record { delta = raw; lambda = lambda; independent = c.in-Some.independent } in
    let expected : expects_of from raw ≡ truth_of c.expects.result =
    sym (rw (c.standing_rows-rows.ensures, c.curvature_for-b.ensures) at c.expects.ensures
    ∙ expects_reads from raw) in
    rw (
      c.standing_rows-rows.ensures,
      c.curvature_for-b.ensures,
      c.standing_point-x.ensures,
    ) at (c.within.ensures lambda)
    ∙ within_reads from a.state.radius raw lambda
    ∙ sym (proposal_by from a.state.mu a.state.radius (found x)
    (stepped raw lambda c.damped_step.ensures (c.requires.prepared_at.steps a.state.mu)
    (c.in_ok-step.was ∙ ap Ok c.in-Some.is))
    ∙ proposed_drop from a.state.mu a.state.radius x (expected ∙ ap truth_of c.in_ok-drop.was ∙ ap ok c.if-drop.true))

pub returns : goal.returns
returns c =
    let a = c.args in
    let from : Standing = standing_in a.origin a.area.now in
    let raw = c.damped_step.new.delta in
    let lambda = c.damped_step.new.lambda in
    let x : Step = record { delta = raw; lambda = lambda; independent = c.in-Some.independent } in
    let expected : expects_of from raw ≡ truth_of c.expects.result =
    sym (rw (c.standing_rows-rows.ensures, c.curvature_for-b.ensures) at c.expects.ensures
    ∙ expects_reads from raw) in
    sym (proposal_by from a.state.mu a.state.radius (found x)
    (stepped raw lambda c.damped_step.ensures (c.requires.prepared_at.steps a.state.mu)
    (c.in_ok-step.was ∙ ap Ok c.in-Some.is))
    ∙ proposed_not from a.state.mu a.state.radius x (expected ∙ ap truth_of c.in_ok-drop.was ∙ ap ok c.if-drop.false))

pub returns-in_err-drop : goal.returns-in_err-drop
returns-in_err-drop c =
    let a = c.args in
    let from : Standing = standing_in a.origin a.area.now in
    let raw = c.damped_step.new.delta in
    let lambda = c.damped_step.new.lambda in
    let x : Step = record { delta = raw; lambda = lambda; independent = c.in-Some.independent } in
    let expected : expects_of from raw ≡ truth_of c.expects.result =
    sym (rw (c.standing_rows-rows.ensures, c.curvature_for-b.ensures) at c.expects.ensures
    ∙ expects_reads from raw) in
    let p = err_from_is_err_and c.from_residual-in_err-drop.result c.from_residual-in_err-drop.ensures.1 in
    rw (p.1, p.2)
    (sym (proposal_by from a.state.mu a.state.radius (found x)
    (stepped raw lambda c.damped_step.ensures (c.requires.prepared_at.steps a.state.mu)
    (c.in_ok-step.was ∙ ap Ok c.in-Some.is))
    ∙ proposed_refused from a.state.mu a.state.radius x (expected ∙ ap truth_of c.in_err-drop.was)))

pub returns-in_default : goal.returns-in_default
returns-in_default c =
    let a = c.args in
    let from : Standing = standing_in a.origin a.area.now in
    sym (proposal_by from a.state.mu a.state.radius not_positive
    (stepped _ _ c.damped_step.ensures (c.requires.prepared_at.steps a.state.mu)
    (c.in_ok-step.was ∙ ap Ok c.in_default.is)))

pub returns-in_err-step : goal.returns-in_err-step
returns-in_err-step c =
    let a = c.args in
    let from : Standing = standing_in a.origin a.area.now in
    let p = err_from_is_err_and c.from_residual.result c.from_residual.ensures.1 in
    rw (p.1, p.2)
    (sym (proposal_refused from a.state.mu a.state.radius
    (stepped _ _ c.damped_step.ensures (c.requires.prepared_at.steps a.state.mu) c.in_err-step.was)))
