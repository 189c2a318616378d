-- `update_curvature` meets its contract: with the factor the update is the definition's, and without one it is refused.
use Rattle.std.proofs.lemmas.Result.{err_from_is_err_and}
use mathlib.Core.Path.{◌∙◌}
use lib.Seq.{length-take-le}
use Rattle.linear.specs.Cholesky.{factor_of}
use Rattle.run.specs.Rows.{evaluation_of}
use Rattle.run.proofs.CurvatureLaws.{update_is}
use Rattle.run.proofs.FactorLaws.{factored, unfactored}
use Rattle.run.proofs.Prefixes.{front_kept}
use Rattle.run.proofs.RowLaws.{room}
use Rattle.run.proofs.curvature.update_curvature.Goals as goal

pub returns-in_err-gram_factor : goal.returns-in_err-gram_factor
returns-in_err-gram_factor c =
    let a = c.args in
    let few-m = c.requires.0.few_constraints in
    let k = c.chosen_slopes in
    let fj = front_kept _ k.new.out _ (room c.requires.0.few_constraints c.requires.0.few_variables) k.auto.out in
    let g = c.gram_factor in
    let l = length-take-le _ _ (room c.requires.0.few_constraints c.requires.0.few_constraints) in
    let p = err_from_is_err_and c.from_residual.result c.from_residual.ensures.1 in
    rw (p.1, p.2)
    (rw c.in_err-gram_factor.was
    at (unfactored a.c a.xs.now c.requires.0 _ _
    (factor_of g.new.l g.new.left_out) _ g.result
    (length-take-le _ _ (room c.requires.0.few_constraints c.requires.0.few_variables)) l l (length-take-le _ _ few-m)
    c.constraints.ensures k.ensures fj
    g.ensures a.b.now a.step.now a.lambda.now a.b.now (evaluation_of a.d a.next.now)
    c.in_err-gram_factor.was))

pub returns : goal.returns
returns c =
    let a = c.args in
    let few-m = c.requires.0.few_constraints in
    let k = c.chosen_slopes in
    let fj = front_kept _ k.new.out _ (room c.requires.0.few_constraints c.requires.0.few_variables) k.auto.out in
    let g = c.gram_factor in
    let l = length-take-le _ _ (room c.requires.0.few_constraints c.requires.0.few_constraints) in
    let m = length-take-le _ _ few-m in
    let d =
    factored a.c a.xs.now c.requires.0 _ _
    (factor_of g.new.l g.new.left_out) _ g.result
    (length-take-le _ _ (room c.requires.0.few_constraints c.requires.0.few_variables)) l l m
    c.constraints.ensures k.ensures fj g.ensures
    (g.auto.l ∙ l)
    (g.auto.left_out ∙ m)
    c.in_ok-gram_factor.was fj
    (front_kept _ g.new.l _ (room c.requires.0.few_constraints c.requires.0.few_constraints) g.auto.l)
    (front_kept _ g.new.left_out _ few-m g.auto.left_out) in
    update_is a.c.n a.b.now a.step.now (evaluation_of a.c a.xs.now)
    (evaluation_of a.d a.next.now) a.lambda.now
    c.lagrangian_change.ensures
    (c.update_factored.ensures a.xs.now d)
