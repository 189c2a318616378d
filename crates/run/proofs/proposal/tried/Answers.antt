-- `tried` meets its contract: the definition's steps, from what each call gives.
use Rattle.std.proofs.lemmas.Result.{err_from_is_err_and}
use mathlib.Core.Path.{sym, ◌∙◌}
use Rattle.linear.specs.Results.{bind}
use Rattle.run.specs.Proposal.{Standing}
use Rattle.run.specs.program.Proposal.{point_of}
use Rattle.run.specs.Rows.{constraints_of}
use Rattle.run.proofs.ProposalLaws.{tried_refused, tried_same, tried_asks}
use Rattle.run.proofs.proposal.tried.Goals as goal

pub returns-then-same : goal.returns-then-same
returns-then-same c lambda =
    let a = c.args in
    let from : Standing = point_of a.c.n a.x.now (constraints_of a.c a.rows.now) in
    sym (tried_same from _ _ lambda c.moved.ensures {p = c.in_ok-predicted.predicted}
    (sym c.predicted.ensures ∙ rw c.in_ok-predicted.was) (sym c.same.ensures ∙ c.if-same.true))

pub returns : goal.returns
unfolding bind
returns c lambda =
    let a = c.args in
    let from : Standing = point_of a.c.n a.x.now (constraints_of a.c a.rows.now) in
    sym (tried_asks from _ _ lambda c.moved.ensures {p = c.in_ok-predicted.predicted}
    (sym c.predicted.ensures ∙ rw c.in_ok-predicted.was)
    (sym c.same.ensures ∙ c.if-same.false)
    ∙ rw (← c.norm_of.ensures) (sym (c.asked.ensures _ _ _)))

pub returns-in_err-predicted : goal.returns-in_err-predicted
returns-in_err-predicted c lambda =
    let a = c.args in
    let from : Standing = point_of a.c.n a.x.now (constraints_of a.c a.rows.now) in
    let p = err_from_is_err_and c.from_residual.result c.from_residual.ensures.1 in
    rw (p.1, p.2)
    (sym (tried_refused from _ _ lambda c.moved.ensures (sym c.predicted.ensures ∙ rw c.in_err-predicted.was)))
