-- `scaled_points_inside` meets its contract: the places so far are filled, those ahead are as they were, and each place
-- is inside.
use mathlib.Core.Path.{refl, ◌∙◌}
use native.Mathlib.Omega.{arith}
use borrow.Author.Rules.{rules}
use Rattle.interval.specs.Scalar.{mul_of}
use Rattle.linear.specs.Flat.{fill_to}
use Rattle.linear.specs.Scaled.{minus_scaled}
use Rattle.linear.proofs.BoundLaws.{difference_chosen}
use Rattle.linear.proofs.FillLaws.{scaled_more}
use Rattle.linear.proofs.scaled.scaled_points_inside.Goals as goal

pub loop-p-init : goal.loop-p-init
unfolding minus_scaled fill_to
loop-p-init c = (search rules, refl, refl)

pub loop-p-preserved : goal.loop-p-preserved
loop-p-preserved c =
    let l = c.loop-p in
    let x = c.at_inside in
    let y = c.at_inside-y in
    let s = mul_of c.args.a y.result in
    let h = difference_chosen x.result s c.bounds_of-z.ensures c.minus_points.ensures in
    let g = c.degenerate.ensures ∙ c.chosen.ensures ∙ h in
    let f = c.put_inside.ensures in
    let e = scaled_more _ _ _ _ _ l.p _ l.invariant.2 x.ensures y.ensures g f in
    (omega (arith, c.loop-p-test.true), search rules, e)
