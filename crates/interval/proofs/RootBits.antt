-- The steps of `root_bits` keep the number c * 2 ^ e, and the digits and the exponent put together are the pattern of
-- the rounded root.
use Rattle.std.proofs.Common.{◌≡◌, ℕ, zero, suc, ◌+◌, ◌-◌, ◌*◌, ◌/◌, ◌%◌, ◌^◌, ◌<◌, ◌≤◌, sym, refl, ap, ◌∙◌, subst}
use Rattle.std.proofs.Common.{le_trans, le_of_eq, mul_assoc, mul-one, arith, pow-add}
use native.Mathlib.Nat.{pow-succ'}
use lib.Ieee.{binary64, low, of_bits}
use Rattle.interval.specs.Pattern.{inf_bits, fields_magnitude, magnitude}
use Rattle.interval.specs.Root.{IsRoot, rounded_root}
use Rattle.interval.specs.RootSteps.{Decomposed, Normalizable, Normalized, EvenExponent}
use Rattle.interval.proofs.Patterns.{magnitude_zero}
use Rattle.interval.proofs.Rounding.{magnitude_lt}
use Rattle.interval.proofs.RootDigits.{sq_lt, near_root_bits}

-- ---- `parts`
pub parts_zero : (b : ℕ) → 0 < b → b / 4503599627370496 ≡ 0
    → Decomposed (magnitude binary64 b) (b % 4503599627370496) 52 × (b % 4503599627370496 < 2 ^ 53)
unfolding magnitude
parts_zero b h z =
    let m : magnitude binary64 b ≡ b % 4503599627370496 =
    ap (λ (x : ℕ). fields_magnitude binary64 x (b % 4503599627370496)) z ∙ mul-one (b % 4503599627370496) in
    (record { same = ap (λ (x : ℕ). x * 2 ^ 52) (sym m); some = omega arith; reach = omega arith }, omega arith)

pub parts_more : (b : ℕ) → b < inf_bits binary64 → (b / 4503599627370496 ≡ 0 → ⊥)
    → Decomposed (magnitude binary64 b) (b % 4503599627370496 + 4503599627370496) (b / 4503599627370496 + 51)
    × (b % 4503599627370496 + 4503599627370496 < 2 ^ 53)
unfolding magnitude
parts_more b h z =
    let x = b / 4503599627370496 - 1 in
    let t = b % 4503599627370496 in
    let e : b / 4503599627370496 ≡ suc x = omega arith in
    let m : magnitude binary64 b ≡ (4503599627370496 + t) * 2 ^ x = ap (λ (k : ℕ). fields_magnitude binary64 k t) e in (
      record {
        same = ap (λ (k : ℕ). (t + 4503599627370496) * 2 ^ k) (omega arith)
            ∙ ap (λ (k : ℕ). (t + 4503599627370496) * k) (pow-add 2 x 52)
            ∙ sym (mul_assoc (t + 4503599627370496) (2 ^ x) (2 ^ 52)) ∙ ap (λ (k : ℕ). k * 2 ^ x * 2 ^ 52) (omega arith)
            ∙ ap (λ (k : ℕ). k * 2 ^ 52) (sym m);
        some = omega arith;
        reach = omega arith;
      },
      omega arith,
    )

-- ---- `lifted`
pub record Up (c₀ e₀ c e : ℕ) : Type 0 where
  pub same : c * 2 ^ e ≡ c₀ * 2 ^ e₀
  pub some : 0 < c
  pub small : c < 2 ^ 53
  pub enough : 2 ^ 52 ≤ c * 2 ^ e
  pub reach : e ≤ e₀

pub up_start : (c e : ℕ) → Normalizable c e → Up c e c e
up_start c e h = record { same = refl; some = h.some; small = h.small; enough = h.enough; reach = omega arith }

pub up_more : (c₀ e₀ c e : ℕ) → Up c₀ e₀ c e → c < 4503599627370496 → 0 < e
up_more c₀ e₀ c zero v h = absurd (omega (arith, v.enough, mul-one c))
up_more c₀ e₀ c (suc e) v h = omega arith

pub up_turn : (c₀ e₀ c e : ℕ) → Up c₀ e₀ c e → c < 4503599627370496 → Up c₀ e₀ (c * 2) (e - 1)
up_turn c₀ e₀ c e v h =
    let p = up_more c₀ e₀ c e v h in
    let k : c * 2 * 2 ^ (e - 1) ≡ c * 2 ^ e = mul_assoc c 2 (2 ^ (e - 1))
    ∙ ap (λ (z : ℕ). c * z) (sym (pow-succ' 2 (e - 1)) ∙ ap (λ (z : ℕ). 2 ^ z) (omega arith)) in
    record {
      same = k ∙ v.same;
      some = omega (arith, v.some);
      small = omega arith;
      enough = le_trans v.enough (le_of_eq (sym k));
      reach = omega (arith, v.reach);
    }

-- ---- `evened`
pub even_step : (c e : ℕ) → (e % 2 ≡ 0 → ⊥) → EvenExponent c e (c * 2) (e - 1)
even_step c e h = record {
  same = mul_assoc c 2 (2 ^ (e - 1))
      ∙ ap (λ (z : ℕ). c * z) (sym (pow-succ' 2 (e - 1)) ∙ ap (λ (z : ℕ). 2 ^ z) (omega arith));
  from = omega arith;
  small = omega arith;
  even = omega arith;
  reach = omega arith;
}

-- ---- `root_bits`
pub widen : (n c e a : ℕ) → c * 2 ^ e ≡ n * 2 ^ 52 → e ≡ a + a
    → n * 2 ^ low binary64 ≡ 2 * (c * 2 ^ 53) * (2 ^ (a + 484) * 2 ^ (a + 484))
widen n c e a s h =
    let j = a + 484 in
    sym (mul_assoc n (2 ^ 52) (2 ^ 1022)) ∙ ap (λ (z : ℕ). z * 2 ^ 1022) (sym s) ∙ mul_assoc c (2 ^ e) (2 ^ 1022)
    ∙ ap (λ (z : ℕ). c * z) (sym (pow-add 2 e 1022) ∙ ap (λ (z : ℕ). 2 ^ z) (omega arith) ∙ pow-add 2 54 (j + j)
    ∙ ap (λ (z : ℕ). 2 ^ 54 * z) (pow-add 2 j j))
    ∙ sym (mul_assoc c (2 ^ 54) (2 ^ j * 2 ^ j)) ∙ ap (λ (z : ℕ). z * (2 ^ j * 2 ^ j)) (omega arith)

pub bits_root : (n c e q : ℕ) → c * 2 ^ e ≡ n * 2 ^ 52 → 2 ^ 52 ≤ c → c < 2 ^ 54 → e % 2 ≡ 0 → e ≤ 2097
    → IsRoot (c * 2 ^ 54) q
    → (q < 2 ^ 54) × ((e / 2 + 485) * 4503599627370496 + (q + 1) / 2 < inf_bits binary64)
    × (of_bits binary64 ((e / 2 + 485) * 4503599627370496 + (q + 1) / 2) ≡ rounded_root binary64 (n * 2 ^ low binary64))
bits_root n c e q s ca cb ev er r =
    let a = e / 2 in
    let j = a + 484 in
    let qb : q < 2 ^ 54 = sq_lt q (2 ^ 54) (omega (arith, r.0)) in
    let qa : 2 ^ 53 < q + 1 = sq_lt (2 ^ 53) (q + 1) (omega (arith, r.1)) in
    let small : suc j * 4503599627370496 + (q + 1) / 2 < inf_bits binary64 = omega arith in
    let b : suc j * 4503599627370496 + (q + 1) / 2 ≡ (e / 2 + 485) * 4503599627370496 + (q + 1) / 2 = omega arith in
    let N : n * 2 ^ low binary64 ≡ 2 * (c * 2 ^ 53) * (2 ^ j * 2 ^ j) = widen n c e a s (omega arith) in (
      qb,
      omega arith,
      ap (of_bits binary64) (sym b) ∙ sym (near_root_bits binary64 (c * 2 ^ 53) q (n * 2 ^ low binary64) j
          (omega arith) qb (omega (arith, r.0)) (omega (arith, r.1)) N small),
    )

pub lifts_of : (b c e : ℕ) → 0 < b → Decomposed (magnitude binary64 b) c e → c < 2 ^ 53 → Normalizable c e
lifts_of b c e h s k =
    let m : 0 < magnitude binary64 b =
    subst (λ (z : ℕ). z < magnitude binary64 b) (magnitude_zero binary64) (magnitude_lt binary64 0 b h) in
    record { some = s.some; small = k; enough = omega (arith, s.same) }

pub all : (b c₁ e₁ c₂ e₂ c e q : ℕ) → Decomposed (magnitude binary64 b) c₁ e₁ → Normalized c₁ e₁ c₂ e₂
    → EvenExponent c₂ e₂ c e → IsRoot (c * 2 ^ 54) q
    → (q < 2 ^ 54) × ((e / 2 + 485) * 4503599627370496 + (q + 1) / 2 < inf_bits binary64) × (of_bits binary64
    ((e / 2 + 485) * 4503599627370496 + (q + 1) / 2) ≡ rounded_root binary64 (magnitude binary64 b * 2 ^ low binary64))
all b c₁ e₁ c₂ e₂ c e q s l v r =
    bits_root (magnitude binary64 b) c e q (v.same ∙ l.same ∙ s.same) (omega (arith, l.from, v.from))
    (omega (arith, l.small, v.small)) v.even (omega (arith, v.reach, l.reach, s.reach)) r
