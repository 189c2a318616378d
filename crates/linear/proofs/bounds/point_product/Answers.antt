-- `point_product` meets its contract: the product of the lower ends is the greatest and the least of the four.
use mathlib.Core.Path.{◌≡◌, ap, ◌∙◌, subst, sym}
use mathlib.Core.Bool.{true, not}
use lib.Dec.{T}
use lib.Ieee.{Float, inf, binary64, add, div, neg, is_nan, of_bits}
use Rattle.interval.specs.Float.{greater}
use Rattle.interval.specs.Scalar.{zero64}
use Rattle.interval.specs.Step.{next_up}
use Rattle.interval.proofs.Given.{yes}
use Rattle.interval.proofs.MinMax.{inf_number, greater_number}
use Rattle.interval.proofs.Points.{eq_same, point_below, point_above}
use Rattle.linear.proofs.bounds.point_product.Goals as goal

number : (q : Float) {g : Float} → g ≡ greater (inf true) q → T (not (is_nan g))
number q e = subst (λ (z : Float). T (not (is_nan z))) (sym e) (greater_number (inf true) q (inf_number true))

ended : {u g h e : Float} → u ≡ next_up g → g ≡ h → next_up h ≡ e → add binary64 u zero64 ≡ add binary64 e zero64
ended p q r = ap (λ (z : Float). add binary64 z zero64) (p ∙ ap next_up q ∙ r)

pub step_up-requires : goal.step_up-requires
unfolding of_bits div neg
step_up-requires c = number _ c.greater_of.ensures

pub step_up-requires-2 : goal.step_up-requires-2
unfolding of_bits div neg
step_up-requires-2 c = number _ c.greater_of-2.ensures

pub returns : goal.returns
unfolding of_bits div neg
returns c =
    let a = c.args in
    let g = c.well_formed.0.1.1 in
    let h = c.well_formed.1.0.1.1 in
    let x = eq_same a.x.lo a.x.hi (yes g.0.1) (yes g.1.0.1) c.requires.0 in
    let y = eq_same a.y.lo a.y.hi (yes h.0.1) (yes h.1.0.1) c.requires.1 in
    let l = ended c.step_up.ensures c.greater_of.ensures
    (point_below a.x a.y x y) in
    let u = ended c.step_up-2.ensures c.greater_of-2.ensures (point_above a.x a.y x y) in
    λ i. record { below = l i; above = u i }
