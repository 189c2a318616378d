-- `learn` meets its contract: each part of the area is its slot, and the curvature before the step goes over all of b.
use mathlib.Core.Path.{ap, ◌∙◌}
use native.Mathlib.Omega.{arith}
use lib.ListN.{length}
use Rattle.run.proofs.DecideLaws.{step_part, curvature_length, learned_is}
use Rattle.run.proofs.EndingLaws.{written_all}
use Rattle.run.proofs.decide.learn.Goals as goal

pub update_curvature-requires : goal.update_curvature-requires
update_curvature-requires c =
    let few = c.requires.1 in
    rw (
      c.standing_counts-c.ensures,
      c.landed_counts-d.ensures,
      c.step.ensures,
    ) (
      few,
      c.requires.2,
      omega (arith, step_part c.args.st.sizes c.args.area.now few.few_variables c.requires.0),
    )

pub returns : goal.returns
returns c w t =
    let e = c.curvature_for.ensures in
    let long = curvature_length c.args.st c.args.area.now c.requires.1.few_variables c.requires.0 in
    let b = c.write.ensures ∙ written_all _ _ (omega (arith, ap length e, long, c.requires.3)) ∙ e in
    learned_is c.args.st c.requires.1.few_variables t
    c.standing_counts-c.ensures
    c.landed_counts-d.ensures b c.step.ensures
    c.standing_rows.ensures
    c.landed_rows.ensures
    c.multipliers.ensures c.update_curvature.ensures
