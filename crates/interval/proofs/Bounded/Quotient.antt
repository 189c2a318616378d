-- Where y is at least 2 ^ b units, 1 / y is at most 2 ^ (2148 - b) units before it is rounded. A quotient is the
-- product with that inverse.
use Rattle.std.proofs.Common.{◌≡◌, ℕ, suc, ◌+◌, ◌-◌, ◌*◌, ◌^◌, ◌<◌, ◌≤◌, Bool, true, false, ◌&&◌, T, ◌⊎◌, ℤ, pos, sym}
use Rattle.std.proofs.Common.{refl, ap, ◌∙◌, subst, inl, inr, true≢false, zero-le, le_trans, le_of_eq, lt_of_lt_of_le}
use Rattle.std.proofs.Common.{lt_irrefl, mul-le-mul_left, not-le_of_lt, arith, pow_pos, pow_mono}
use lib.Ieee.{Float, fin, binary64, low, div, le, to_bits}
use Rattle.interval.specs.declared.Scalar.{Scalar}
use Rattle.interval.specs.Bounded.{Small, Bounded, turned, Far, Away, BoundedResult}
use Rattle.interval.specs.Enclosure.{units_of}
use Rattle.interval.specs.Pattern.{magnitude}
use Rattle.interval.specs.Result.{ok, refused}
use Rattle.interval.specs.Scalar.{zero64, one64, pick, inverse, holds_zero, mul_of, div_of}
use Rattle.interval.proofs.Integers.{P, parts_of_le}
use Rattle.interval.proofs.Patterns.{bits_under, magnitude_under}
use Rattle.interval.proofs.Rank.{le_or_lt}
use Rattle.interval.proofs.Enclosure.Add.{pp, nn, plain_fits}
use Rattle.interval.proofs.Enclosure.Neg.{parts_neg}
use Rattle.interval.proofs.Inverse.{div_rounds, units_pos, units_neg, some_above, some_below}
use Rattle.interval.proofs.OneSided.Abs.{not_neg, not_pos}
use Rattle.interval.proofs.Bounded.Power.{rounds_small, outward_bounded}
use Rattle.interval.proofs.Bounded.Product.{powers_le, mul_bounded}

-- ---- a float that is far from zero
far_part : (s : Bool) (v : Float) (b : ℕ) → Far s v b → 2 ^ b ≤ P (turned s (units_of binary64 v))
far_part s v b h = omega (arith, parts_of_le (pos (2 ^ b)) (turned s (units_of binary64 v)) h.at_least)

far_pos : (s : Bool) (v : Float) (b : ℕ) → Far s v b → 0 < P (turned s (units_of binary64 v))
far_pos s v b h = lt_of_lt_of_le (pow_pos b) (far_part s v b h)

far_shape : (s : Bool) (v : Float) (b : ℕ) → Far s v b → (m : ℕ) × (e : ℤ) × (v ≡ fin s (suc m) e)
far_shape false v b h = some_above v h.is_float h.is-finite (far_pos false v b h)
far_shape true v b h = some_below v h.is_float h.is-finite
    (lt_of_lt_of_le (far_pos true v b h) (le_of_eq (parts_neg (units_of binary64 v)).0))

far_size : (s : Bool) (m : ℕ) (e : ℤ) (b : ℕ) → Far s (fin s (suc m) e) b
    → 2 ^ b ≤ magnitude binary64 (to_bits binary64 (fin false (suc m) e))
far_size false m e b h =
    le_trans (far_part false (fin false (suc m) e) b h) (le_of_eq (units_pos (suc m) e h.is_float))
far_size true m e b h = le_trans (far_part true (fin true (suc m) e) b h)
    (le_of_eq ((parts_neg (units_of binary64 (fin true (suc m) e))).0 ∙ units_neg (suc m) e h.is_float))

-- ---- its inverse
pp_le : (s : Bool) (n : ℕ) → (pp s n ≤ n) × (nn s n ≤ n)
pp_le false n = (omega arith, zero-le)
pp_le true n = (zero-le, omega arith)

module _ (s : Bool) (m : ℕ) (e : ℤ) (b : ℕ) (h : Far s (fin s (suc m) e) b) where
  under : b < 2098
  under = elim (le_or_lt 2098 b) [
    | inr g ↦ g
    | inl g ↦
        let t = plain_fits s (suc m) e h.is_float in
        absurd (not-le_of_lt (magnitude_under binary64 (to_bits binary64 (fin false (suc m) e))
        (bits_under binary64 (suc m) e t)) (le_trans (pow_mono g) (far_size s m e b h)))
  ]

  inverse-of : (k : ℕ) → 2148 ≤ k + b → k < 2098 → Small (div binary64 one64 (fin s (suc m) e)) k
  inverse-of k g K =
      let l = 2 ^ low binary64 in
      let u = magnitude binary64 (to_bits binary64 (fin false (suc m) e)) in
      let w = pp_le s (l * l) in
      let n : l * l ≤ 2 ^ k * u = le_trans (powers_le 1074 1074 k b g) (mul-le-mul_left (2 ^ k) (far_size s m e b h)) in
      rounds_small (div binary64 one64 (fin s (suc m) e)) (pp s (l * l)) (nn s (l * l)) u k
      (div_rounds s m e h.is_float) (lt_of_lt_of_le (pow_pos b) (far_size s m e b h))
      (le_trans w.0 n) (le_trans w.1 n) K

pub far_under : (s : Bool) (v : Float) (b : ℕ) → Far s v b → b < 2098
far_under s v b h = let w = far_shape s v b h in under s w.0 w.1 b (subst (λ (z : Float). Far s z b) w.2 h)

pub inverse_small : (s : Bool) (v : Float) (b k : ℕ) → Far s v b → 2148 ≤ k + b → k < 2098
    → Small (div binary64 one64 v) k
inverse_small s v b k h g K =
    let w = far_shape s v b h in
    subst (λ (z : Float). Small (div binary64 one64 z) k) (sym w.2)
    (inverse-of s w.0 w.1 b (subst (λ (z : Float). Far s z b) w.2 h) k g K)

pub inverse_bounded : (y : Scalar) (b k : ℕ) → Away y b → 2148 ≤ k + b → k + 1 < 2098 → Bounded (inverse y) (k + 1)
inverse_bounded y b k h g K =
    let s = h.side in
    outward_bounded (div binary64 one64 y.hi) (div binary64 one64 y.lo) k (inverse_small s y.hi b k
    h.hi_far g (omega arith)) (inverse_small s y.lo b k h.lo_far g (omega arith)) K

-- ---- the quotient
refute : (t : Bool) → (T t → ⊥) → t ≡ false
refute true k = absurd (k tt)
refute false k = refl

no_end : (a b : Bool) → (a ≡ false) ⊎ (b ≡ false) → (a && b) ≡ false
no_end false b w = refl
no_end true b (inl e) = absurd (true≢false e)
no_end true b (inr e) = e

pub away_zero : (y : Scalar) (b : ℕ) → Away y b → holds_zero y ≡ false
away_zero y b h = no_end (le y.lo zero64) (le zero64 y.hi) (go h.side h.lo_far h.hi_far)
  where
    go : (s : Bool) → Far s y.lo b → Far s y.hi b → (le y.lo zero64 ≡ false) ⊎ (le zero64 y.hi ≡ false)
    go false l u = inl (refute (le y.lo zero64) (λ t. lt_irrefl 0
        (lt_of_lt_of_le (far_pos false y.lo b l) (le_of_eq (not_pos y.lo l.is_float l.is-finite t)))))
    go true l u = inr (refute (le zero64 y.hi) (λ t. lt_irrefl 0 (lt_of_lt_of_le (far_pos true y.hi b u)
        (le_of_eq ((parts_neg (units_of binary64 y.hi)).0 ∙ not_neg y.hi u.is_float u.is-finite t)))))

pub div_given : (x y : Scalar) (b : ℕ) → Away y b → div_of x y ≡ ok (mul_of x (inverse y))
unfolding div_of
div_given x y b h = ap (λ (t : Bool). pick t (refused 6) (ok (mul_of x (inverse y)))) (away_zero y b h)

pub div_bounded : (x y : Scalar) (a b k : ℕ) → Bounded x a → Away y b → 52 ≤ b → a + 1075 ≤ k + b → k + 1 < 2098
    → BoundedResult (div_of x y) (k + 1)
div_bounded x y a b k h g B s K =
    let u = far_under g.side y.lo b g.lo_far in
    let i = 2148 - b in
    record {
      result = mul_of x (inverse y);
      given = div_given x y b g;
      bounded =
          mul_bounded x (inverse y) a (i + 1) k h (inverse_bounded y b i g (omega arith) (omega arith)) (omega arith) K;
    }
