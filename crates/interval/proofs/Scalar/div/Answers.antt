-- `div` meets its contract: the divisor's inverse decides the refusal, and else the product with it encloses the
-- quotient.
use Rattle.std.proofs.Common.{◌^◌, sym, ap, ◌∙◌, subst}
use Rattle.std.proofs.lemmas.Result.{err_from_is_err_and}
use Rattle.interval.specs.Scalar.{mul_of}
use Rattle.interval.specs.Result.{ok, result_of}
use Rattle.interval.specs.Enclosure.{EnclosesQuotient}
use Rattle.interval.proofs.Given.{yes}
use Rattle.interval.proofs.Results.{refused_ok, ok_inj}
use Rattle.interval.proofs.Division.{inverse_value, div_value, div_refused}
use Rattle.interval.proofs.Enclosure.Div.{div_holds}
use Rattle.interval.proofs.Scalar.div.Goals as goal

pub returns : goal.returns
returns c =
    let x = c.args.self in
    let y = c.args.other in
    let g = c.well_formed.0.1.1 in
    let h = c.well_formed.1.0.1.1 in
    let i = sym c.inverse.ensures ∙ ap result_of c.in_ok-inverse.was in
    let v = inverse_value y _ i in
    let m = c.mul.ensures.value ∙ ap (mul_of x) v.1 in
    record {
      value = ap ok c.mul.ensures.value ∙ sym (div_value x y _ i);
      encloses = λ r e. subst (EnclosesQuotient x y) (sym m ∙ ok_inj e)
          (λ fx fy fr p q j k a b. div_holds x y (yes g.0.1, yes g.1.0.1) (yes h.0.1, yes h.1.0.1)
          fx fy v.0 fr p q (2 ^ j) (2 ^ k) a b);
    }

pub returns-in_err-inverse : goal.returns-in_err-inverse
returns-in_err-inverse c =
    let p = err_from_is_err_and c.from_residual.result c.from_residual.ensures.1 in
    let i = sym c.inverse.ensures ∙ ap result_of c.in_err-inverse.was in
    rw (p.1, p.2)
    (record { value = sym (div_refused c.args.self c.args.other _ i); encloses = λ x e. absurd (refused_ok e) })
