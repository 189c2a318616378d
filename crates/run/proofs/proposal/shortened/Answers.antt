-- `shortened` meets its contract: each arm is the definition's.
use Rattle.std.proofs.lemmas.Result.{err_from_is_err_and}
use mathlib.Core.Path.{◌≡◌, sym, ap, ◌∙◌}
use mathlib.Core.List.{List}
use lib.Ieee.{Float}
use Rattle.interval.specs.Result.{ok}
use Rattle.run.specs.Proposal.{Standing, expects_of, shortened_of}
use Rattle.run.specs.Results.{truth_of}
use Rattle.run.specs.program.Proposal.{still_for}
use Rattle.run.proofs.ProposalLaws.{expects_reads, trial_reads, shortened_drop, shortened_not, shortened_refused}
use Rattle.run.proofs.proposal.shortened.Goals as goal

-- the step that the definition cuts is the one cut
cut-is : (from : Standing) (lambda : List Float) {cut by : List Float} → cut ≡ by
    → shortened_of from cut lambda ≡ shortened_of from by lambda
cut-is from lambda e = ap (λ (d : List Float). shortened_of from d lambda) e

pub returns-then-drop : goal.returns-then-drop
returns-then-drop c lambda =
    let a = c.args in
    let from : Standing = still_for a.point a.rows.now a.b.now a.x.now in
    let cut = c.cut.new.delta in
    let expected : expects_of from cut ≡ truth_of c.expects.result = sym (c.expects.ensures ∙ expects_reads from cut) in
    c.trial.ensures lambda
    ∙ trial_reads from cut lambda
    ∙ sym (shortened_drop from cut lambda (expected ∙ ap truth_of c.in_ok-drop.was ∙ ap ok c.if-drop.true))
    ∙ cut-is from lambda c.cut.ensures

pub returns : goal.returns
returns c lambda =
    let a = c.args in
    let from : Standing = still_for a.point a.rows.now a.b.now a.x.now in
    let cut = c.cut.new.delta in
    let expected : expects_of from cut ≡ truth_of c.expects.result = sym (c.expects.ensures ∙ expects_reads from cut) in
    sym (shortened_not from cut lambda (expected ∙ ap truth_of c.in_ok-drop.was ∙ ap ok c.if-drop.false))
    ∙ cut-is from lambda c.cut.ensures

pub returns-in_err-drop : goal.returns-in_err-drop
returns-in_err-drop c lambda =
    let a = c.args in
    let from : Standing = still_for a.point a.rows.now a.b.now a.x.now in
    let cut = c.cut.new.delta in
    let expected : expects_of from cut ≡ truth_of c.expects.result = sym (c.expects.ensures ∙ expects_reads from cut) in
    let p = err_from_is_err_and c.from_residual.result c.from_residual.ensures.1 in
    rw (p.1, p.2)
    (sym (shortened_refused from cut lambda (expected ∙ ap truth_of c.in_err-drop.was))
    ∙ cut-is from lambda c.cut.ensures)
