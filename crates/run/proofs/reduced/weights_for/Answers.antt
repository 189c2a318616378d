-- `weights_for` meets its contract: the parts of the arrays have the lengths asked, and the factor decides, then its
-- marks, then the solve.
use Rattle.std.proofs.lemmas.Result.{err_from_is_err_and}
use mathlib.Core.Path.{◌≡◌, ◌∙◌}
use native.Mathlib.Omega.{arith}
use lib.Seq.{length-take-le}
use Rattle.linear.specs.LinearResult.{done_of}
use Rattle.linear.specs.Cholesky.{factor_of, cholesky_of}
use Rattle.linear.specs.Substitution.{solve_of}
use Rattle.run.proofs.LinearCalls.{cholesky_result, sharp_written, sharp_passes}
use Rattle.run.proofs.ReducedLaws.{weights_none, weights_solved, weights_refused, unfactored, solve_fronts}
use Rattle.run.proofs.Prefixes.{front_kept}
use Rattle.run.proofs.RowLaws.{room, short}
use Rattle.run.proofs.reduced.weights_for.Goals as goal

pub returns-in_err-cholesky : goal.returns-in_err-cholesky
returns-in_err-cholesky c =
    let a = c.args in
    let f = c.cholesky.new in
    let ended : done_of c.cholesky.result (factor_of f.l f.left_out) ≡ cholesky_of a.t a.a.now =
    cholesky_result c.cholesky.result _ _ _ _ (omega (arith, c.requires.0)) c.requires.1.0
    (length-take-le _ _ (room c.requires.0 c.requires.0)) (length-take-le _ _ c.requires.0) c.cholesky.ensures in
    let e = err_from_is_err_and c.from_residual.result c.from_residual.ensures.1 in
    rw (e.1, e.2) (unfactored a.t a.a.now a.w.now _ c.in_err-cholesky.was ended)

pub returns-then-contains : goal.returns-then-contains
returns-then-contains c =
    let a = c.args in
    let f = c.cholesky.new in
    let g = c.cholesky.auto in
    let ended : done_of c.cholesky.result (factor_of f.l f.left_out) ≡ cholesky_of a.t a.a.now =
    cholesky_result c.cholesky.result _ _ _ _ (omega (arith, c.requires.0)) c.requires.1.0
    (length-take-le _ _ (room c.requires.0 c.requires.0)) (length-take-le _ _ c.requires.0) c.cholesky.ensures in
    let n = g.left_out ∙ length-take-le _ _ c.requires.0 in
    let m = front_kept _ f.left_out _ c.requires.0 g.left_out in
    weights_none a.t a.a.now a.w.now (factor_of f.l f.left_out)
    c.in_ok-cholesky.was
    ended n m c.contains.ensures.value c.if-contains.true

pub returns-in_err-solve_cholesky : goal.returns-in_err-solve_cholesky
returns-in_err-solve_cholesky c =
    let a = c.args in
    let f = c.cholesky.new in
    let g = c.cholesky.auto in
    let ended : done_of c.cholesky.result (factor_of f.l f.left_out) ≡ cholesky_of a.t a.a.now =
    cholesky_result c.cholesky.result _ _ _ _ (omega (arith, c.requires.0)) c.requires.1.0
    (length-take-le _ _ (room c.requires.0 c.requires.0)) (length-take-le _ _ c.requires.0) c.cholesky.ensures in
    let done : done_of c.solve_cholesky.result c.solve_cholesky.new.x ≡ solve_of a.t f.l f.left_out a.w.now =
    solve_fronts c.solve_cholesky.result a.t f.l f.left_out a.w.now _ c.solve_cholesky.new.x
    (omega (arith, c.requires.0)) (g.l ∙ length-take-le _ _ (room c.requires.0 c.requires.0))
    (g.left_out ∙ length-take-le _ _ c.requires.0) c.requires.1.1 (length-take-le _ _ (short c.requires.0))
    (front_kept _ f.l _ (room c.requires.0 c.requires.0) g.l) (front_kept _ f.left_out _ c.requires.0 g.left_out)
    c.solve_cholesky.ensures in
    let n = g.left_out ∙ length-take-le _ _ c.requires.0 in
    let m = front_kept _ f.left_out _ c.requires.0 g.left_out in
    let e =
    err_from_is_err_and c.from_residual-in_err-solve_cholesky.result c.from_residual-in_err-solve_cholesky.ensures.1 in
    rw (e.1, e.2)
    (weights_refused a.t a.a.now a.w.now (factor_of f.l f.left_out)
    c.in_ok-cholesky.was ended n m c.contains.ensures.value _ c.if-contains.false done c.in_err-solve_cholesky.was)

pub returns : goal.returns
returns c =
    let a = c.args in
    let f = c.cholesky.new in
    let g = c.cholesky.auto in
    let ended : done_of c.cholesky.result (factor_of f.l f.left_out) ≡ cholesky_of a.t a.a.now =
    cholesky_result c.cholesky.result _ _ _ _ (omega (arith, c.requires.0)) c.requires.1.0
    (length-take-le _ _ (room c.requires.0 c.requires.0)) (length-take-le _ _ c.requires.0) c.cholesky.ensures in
    let done : done_of c.solve_cholesky.result c.solve_cholesky.new.x ≡ solve_of a.t f.l f.left_out a.w.now =
    solve_fronts c.solve_cholesky.result a.t f.l f.left_out a.w.now _ c.solve_cholesky.new.x
    (omega (arith, c.requires.0)) (g.l ∙ length-take-le _ _ (room c.requires.0 c.requires.0))
    (g.left_out ∙ length-take-le _ _ c.requires.0) c.requires.1.1 (length-take-le _ _ (short c.requires.0))
    (front_kept _ f.l _ (room c.requires.0 c.requires.0) g.l) (front_kept _ f.left_out _ c.requires.0 g.left_out)
    c.solve_cholesky.ensures in
    let n = g.left_out ∙ length-take-le _ _ c.requires.0 in
    let m = front_kept _ f.left_out _ c.requires.0 g.left_out in
    let x = c.solve_cholesky.new.x in
    let kx = c.solve_cholesky.auto.x in
    let v =
    sharp_written c.sharp.result a.t x a.w.now
    c.sharp.new.out (omega (arith, c.requires.0))
    (kx ∙ length-take-le _ _ (short c.requires.0)) c.requires.1.1
    (rw (front_kept _ x _ (short c.requires.0) kx) at c.sharp.ensures) in
    weights_solved a.t a.a.now a.w.now (factor_of f.l f.left_out)
    c.in_ok-cholesky.was
    ended n m
    c.contains.ensures.value _
    c.if-contains.false done
    c.in_ok-solve_cholesky.was v

pub returns-in_err-sharp : goal.returns-in_err-sharp
returns-in_err-sharp c =
    let x = c.solve_cholesky.new.x in
    let kx = c.solve_cholesky.auto.x in
    absurd
    (sharp_passes c.sharp.result c.args.t x c.args.w.now c.sharp.new.out (omega (arith, c.requires.0))
    (kx ∙ length-take-le _ _ (short c.requires.0)) c.requires.1.1
    (rw (front_kept _ x _ (short c.requires.0) kx) at c.sharp.ensures) c.in_err-sharp.was)
