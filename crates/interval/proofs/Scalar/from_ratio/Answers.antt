-- `from_ratio` meets its contract: a zero denominator is refused, and else the quotient of the nearest floats is
-- stepped outward.
use Rattle.std.proofs.Common.{◌≡◌, zero, suc, ℤ, pos, negsuc, sym, refl, ap, ◌∙◌, arith, w64, SFits, of_z}
use mir.ValLaws.{to_z-of_z}
use lib.Ieee.{of_int, binary64, div}
use Rattle.interval.specs.Step.{next_up, next_down}
use Rattle.interval.specs.Scalar.{from_ratio, ratio, outward}
use Rattle.interval.specs.Result.{ok, refused}
use Rattle.interval.proofs.Scalar.from_ratio.Goals as goal

none : (n d : ℤ) → SFits w64 d → of_z w64 d ≡ 0 → from_ratio n d ≡ refused 6
unfolding from_ratio
none n (pos zero) f h = refl
none n (pos (suc d)) f h = absurd (omega arith)
none n (negsuc d) f h = absurd (omega (arith, f.sfits))

some : (n d : ℤ) → (of_z w64 d ≡ 0 → ⊥) → from_ratio n d ≡ ok (outward (ratio n d) (ratio n d))
unfolding from_ratio
some n (pos zero) h = absurd (h refl)
some n (pos (suc d)) h = refl
some n (negsuc d) h = refl

pub returns-then-den-eq0 : goal.returns-then-den-eq0
returns-then-den-eq0 c = sym (none c.args.num c.args.den c.ranges.den c.if-den-eq0.true)

pub returns : goal.returns
returns c =
    let e : c.nearest_i64_to_f64.result ≡ of_int binary64 c.args.num =
    c.nearest_i64_to_f64.ensures
    ∙ ap (of_int binary64) (to_z-of_z w64 c.args.num c.ranges.num) in
    let g : c.nearest_i64_to_f64-2.result ≡ of_int binary64 c.args.den =
    c.nearest_i64_to_f64-2.ensures ∙ ap (of_int binary64) (to_z-of_z w64 c.args.den c.ranges.den) in
    let l : c.next_down.result ≡ next_down (ratio c.args.num c.args.den) =
    c.next_down.ensures ∙ (λ i. next_down (div binary64 (e i) (g i))) in
    let h : c.next_up.result ≡ next_up (ratio c.args.num c.args.den) =
    c.next_up.ensures ∙ (λ i. next_up (div binary64 (e i) (g i))) in
    (λ i. ok (record { lo = l i; hi = h i }))
    ∙ sym (some c.args.num c.args.den c.if-den-eq0.false)
