-- `cut_within` meets its contract: the length and the test decide whether the step is cut.
use Rattle.std.proofs.lemmas.Result.{err_from_is_err_and}
use mathlib.Core.Path.{sym, ap, ◌∙◌}
use Rattle.interval.specs.Result as scalar
use Rattle.interval.specs.Result.{ok}
use Rattle.linear.specs.LinearResult.{result_of}
use Rattle.linear.proofs.Folds.{bind_ok, bind_refused}
use Rattle.run.proofs.ProposalLaws.{cut_refused, cut_whole, cut_by}
use Rattle.run.proofs.radius.cut_within.Goals as goal

pub returns-in_err-length : goal.returns-in_err-length
returns-in_err-length c =
    let a = c.args in
    let p = err_from_is_err_and c.from_residual.result c.from_residual.ensures.1 in
    rw (p.1, p.2)
    (sym (cut_refused a.n a.radius a.delta.now (sym c.norm_of.ensures ∙ ap result_of c.in_err-length.was)))

pub returns-else-definitely_greater : goal.returns-else-definitely_greater
returns-else-definitely_greater c =
    let a = c.args in
    sym (cut_whole a.n a.radius a.delta.now c.in_ok-length.length
    (sym c.norm_of.ensures
    ∙ ap result_of c.in_ok-length.was) (sym c.definitely_greater.ensures
    ∙ c.if-definitely_greater.false))

pub returns-in_err-shrink : goal.returns-in_err-shrink
returns-in_err-shrink c =
    let a = c.args in
    let p = err_from_is_err_and c.from_residual-in_err-shrink.result c.from_residual-in_err-shrink.ensures.1 in
    rw (p.1, p.2)
    (sym (cut_by a.n a.radius a.delta.now
    c.in_ok-length.length
    (sym c.norm_of.ensures
    ∙ ap result_of c.in_ok-length.was)
    (sym c.definitely_greater.ensures
    ∙ c.if-definitely_greater.true)
    ∙ bind_refused _ (sym c.div.ensures.value
    ∙ ap scalar.result_of c.in_err-shrink.was)))

pub returns-in_ok-shrink : goal.returns-in_ok-shrink
returns-in_ok-shrink c =
    let a = c.args in
    ap ok c.cut.ensures
    ∙ sym (cut_by a.n a.radius a.delta.now
    c.in_ok-length.length
    (sym c.norm_of.ensures
    ∙ ap result_of
    c.in_ok-length.was)
    (sym c.definitely_greater.ensures
    ∙ c.if-definitely_greater.true)
    ∙ bind_ok _ (sym c.div.ensures.value
    ∙ ap scalar.result_of c.in_ok-shrink.was))
