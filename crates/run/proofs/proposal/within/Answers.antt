-- `within` meets its contract: the length and the test decide whether the step is cut.
use Rattle.std.proofs.lemmas.Result.{err_from_is_err_and}
use mathlib.Core.Path.{sym, ap, ◌∙◌}
use Rattle.interval.specs.Result as scalar
use Rattle.linear.specs.LinearResult.{result_of}
use Rattle.linear.proofs.Folds.{bind_ok, bind_refused}
use Rattle.run.specs.Proposal.{Standing}
use Rattle.run.specs.program.Proposal.{still_for}
use Rattle.run.proofs.ProposalLaws.{trial_reads, within_refused, within_whole, within_cut}
use Rattle.run.proofs.proposal.within.Goals as goal

pub returns-then-not-definitely_greater : goal.returns-then-not-definitely_greater
returns-then-not-definitely_greater c lambda =
    let a = c.args in
    let from : Standing = still_for a.point a.rows.now a.b.now a.x.now in
    let raw = a.delta.now in
    c.trial.ensures lambda
    ∙ trial_reads from raw lambda
    ∙ sym (within_whole from a.radius raw lambda c.in_ok-length.length
    (sym c.norm_of.ensures ∙ ap result_of c.in_ok-length.was)
    (sym c.definitely_greater.ensures ∙ c.if-not-definitely_greater.true))

pub returns : goal.returns
returns c lambda =
    let a = c.args in
    let from : Standing = still_for a.point a.rows.now a.b.now a.x.now in
    let raw = a.delta.now in
    let greater = sym c.definitely_greater.ensures ∙ c.if-not-definitely_greater.false in
    let shrink = sym c.div.ensures.value ∙ ap scalar.result_of c.in_ok-shrink.was in
    c.shortened.ensures lambda
    ∙ sym (within_cut from a.radius raw lambda c.in_ok-length.length
    (sym c.norm_of.ensures ∙ ap result_of c.in_ok-length.was) greater
    ∙ bind_ok _ shrink)

pub returns-in_err-shrink : goal.returns-in_err-shrink
returns-in_err-shrink c lambda =
    let a = c.args in
    let from : Standing = still_for a.point a.rows.now a.b.now a.x.now in
    let raw = a.delta.now in
    let greater = sym c.definitely_greater.ensures ∙ c.if-not-definitely_greater.false in
    let e = sym c.div.ensures.value ∙ ap scalar.result_of c.in_err-shrink.was in
    let p = err_from_is_err_and c.from_residual-in_err-shrink.result c.from_residual-in_err-shrink.ensures.1 in
    rw (p.1, p.2)
    (sym (within_cut from a.radius raw lambda c.in_ok-length.length
    (sym c.norm_of.ensures ∙ ap result_of c.in_ok-length.was) greater
    ∙ bind_refused _ e))

pub returns-in_err-length : goal.returns-in_err-length
returns-in_err-length c lambda =
    let a = c.args in
    let from : Standing = still_for a.point a.rows.now a.b.now a.x.now in
    let p = err_from_is_err_and c.from_residual.result c.from_residual.ensures.1 in
    rw (p.1, p.2)
    (sym (within_refused from a.radius a.delta.now lambda (sym c.norm_of.ensures ∙ ap result_of c.in_err-length.was)))
