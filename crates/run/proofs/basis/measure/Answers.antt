-- `measure` meets its contract: the length of the places that were filled, which read only the coefficients that were
-- solved for.
use Rattle.std.proofs.lemmas.Result.{err_from_is_err_and}
use mathlib.Core.Path.{sym, ap, ◌∙◌}
use Prim.Native.Nat.{ℕ, ◌*◌, ◌≤◌}
use native.Mathlib.Omega.{arith}
use lib.ListN.{length, take}
use Rattle.interval.specs.declared.Scalar.{Scalar}
use Rattle.linear.specs.Dot.{minus_to}
use Rattle.linear.specs.Flat.{at}
use Rattle.linear.specs.Results.{bind}
use Rattle.linear.proofs.Folds.{bind_ok, bind_refused}
use Rattle.run.specs.Vectors.{column, entry}
use Rattle.run.proofs.BasisLaws.{left_take}
use Rattle.run.proofs.VectorLaws.{norm_fill}
use Rattle.run.proofs.basis.measure.Goals as goal

pub returns : goal.returns
returns c =
    let a = c.args in
    let x = c.coefficients.new.a in
    let e = rw c.in_ok-coefficients.was at c.coefficients.ensures in
    let g : ℕ → Scalar =
    λ j. minus_to (at x) (column a.q.now j) (entry a.wide.now a.passed.m j) a.passed.r in
    let h : 2 * a.passed.k ≤ 24 = omega (arith, c.requires.0.variables) in
    let l =
    rw c.outside.ensures at c.norm_of.ensures
    ∙ norm_fill _ g a.passed.k h in
    let m : 2 * a.passed.r ≤ length x =
    omega (arith, c.coefficients.auto, c.requires.0.independent, c.requires.0.row, c.requires.1) in
    λ f. ap (λ z. bind z (f (take (2 * a.passed.r) x)))
    (l ∙ left_take a.passed.k a.passed.r a.passed.m a.wide.now a.q.now x m)
    ∙ sym (bind_ok _ (sym e))

pub returns-in_err-coefficients : goal.returns-in_err-coefficients
unfolding bind
returns-in_err-coefficients c =
    let e = rw c.in_err-coefficients.was at c.coefficients.ensures in
    let p = err_from_is_err_and c.from_residual.result c.from_residual.ensures.1 in
    λ f. rw (p.1, p.2) (sym (bind_refused _ (sym e)))
