-- `along_constraints` meets its contract: the parts of the arrays have the lengths asked and are filled whole, so the
-- solve is the definition's.
use lib.Seq.{length-take-le}
use Rattle.run.proofs.CurvatureLaws.{along_is}
use Rattle.run.proofs.Prefixes.{front_kept}
use Rattle.run.proofs.RowLaws.{room, short}
use Rattle.run.proofs.curvature.along_constraints.Goals as goal

pub returns : goal.returns
returns c =
    let a = c.args in
    let p = c.requires in
    let slopes = room p.few.few_constraints p.few.few_variables in
    let high = short p.few.few_constraints in
    let fj = front_kept _ c.chosen_slopes.new.out _ slopes c.chosen_slopes.auto.out in
    let fr = front_kept _ c.products.new.out _ high c.products.auto.out in
    along_is a.c a.xs.now a.v.now _ _ a.out.now p.few p.enough _ _
    c.minus_solved.result _ p.values (length-take-le _ _ slopes) (length-take-le _ _ high) fj fr
    c.constraints.ensures
    c.chosen_slopes.ensures
    c.products.ensures
    c.minus_solved.ensures
