-- `scaled_squares` meets its contract: the inverse decides the refusal, and else the quotients are products with it.
use mathlib.Core.Path.{sym, ap, ◌∙◌}
use Rattle.std.proofs.lemmas.Result.{err_from_is_err_and}
use Rattle.interval.specs.Result.{ok, result_of}
use Rattle.linear.specs.Flat.{at}
use Rattle.linear.proofs.NormSquares.{squares_value, squares_refused}
use Rattle.linear.proofs.norms.scaled_squares.Goals as goal

pub returns : goal.returns
returns c =
    let a = c.args in
    let e = sym c.inverse.ensures ∙ ap result_of c.in_ok-i.was in
    ap ok c.squares_times.ensures ∙ sym (squares_value (at a.v.now) a.g _ a.n e)

pub returns-in_err-i : goal.returns-in_err-i
returns-in_err-i c =
    let a = c.args in
    let p = err_from_is_err_and c.from_residual.result c.from_residual.ensures.1 in
    let e = sym c.inverse.ensures ∙ ap result_of c.in_err-i.was in
    rw (p.1, p.2) (sym (squares_refused (at a.v.now) a.g _ a.n e c.requires))
