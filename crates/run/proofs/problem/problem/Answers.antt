-- `problem` meets its contract: each part is one of the definition's; the sum's slopes are filled from a clear array.
use mathlib.Core.Path.{refl, sym, subst}
use lib.Ieee.{of_bits}
use Rattle.run.specs.program.Problem.{kept_by}
use Rattle.run.specs.program.Rows.{Small}
use Rattle.run.proofs.ProblemLaws.{squeezed_chosen, undamped_filled, undamped_damped, undamped_gradient}
use Rattle.run.proofs.ProblemLaws.{problem_is}
use Rattle.run.proofs.RowLaws.{sum_small}
use Rattle.run.proofs.problem.problem.Goals as goal

pub returns : goal.returns
unfolding of_bits
returns c =
    let a = c.args in
    let p = c.requires in
    let few = p.few_rows.1.few in
    let l = c.slopes.ensures in
    let k = kept_by a.k a.index.now in
    let u = undamped_filled a.c.n k _ _ _ a.c.m a.b.now _ few
    c.fill_undamped.ensures
    c.scalings.ensures c.gradient.ensures in
    let jr = squeezed_chosen k _ few ((let the-sum_near : Small c.sum-e.result =
    let f = c.requires.few_rows.0 in
    subst Small (sym c.sum-e.ensures) (sum_small f) in the-sum_near)).few_rows refl
    c.squeeze.ensures in
    λ mu.
    problem_is _ k _ _ mu c.sum-e.ensures
    c.constraints.ensures
    p.wide_value.0 p.wide_value.1 l.0 l.1 jr
    (undamped_damped _ k _ _ _ _ _ _ u mu few) (undamped_gradient _ k _ _ _ _ _ _ u)
