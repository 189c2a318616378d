-- `quotient` meets its contract: the product with the inverse, or its refusal.
use mathlib.Core.Path.{sym, ap, ◌∙◌}
use Rattle.std.proofs.lemmas.Result.{err_from_is_err_and}
use Rattle.interval.specs.Result.{ok, result_of}
use Rattle.interval.proofs.Division.{div_value, div_refused}
use Rattle.run.proofs.vectors.quotient.Goals as goal

pub returns-in_err-inverse : goal.returns-in_err-inverse
returns-in_err-inverse c = λ y e.
    let p = err_from_is_err_and c.from_residual.result c.from_residual.ensures.1 in
    rw (p.1, p.2) (sym (div_refused _ y _ (sym e ∙ ap result_of c.in_err-inverse.was)))

pub returns : goal.returns
returns c = λ y e.
    ap ok c.mul.ensures.value ∙ sym (div_value _ y _ (sym e ∙ ap result_of c.in_ok-inverse.was))
