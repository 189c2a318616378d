-- The numbers of neighbouring patterns: the gap between them, twice a number, and the two neighbours of a pattern,
-- which add up to twice it, rounded.
use Rattle.std.proofs.Common.{◌≡◌, ℕ, zero, suc, ◌+◌, ◌-◌, ◌*◌, ◌/◌, ◌%◌, ◌^◌, ◌<◌, ◌≤◌, Bool, true, false, cond, not}
use Rattle.std.proofs.Common.{T, ltb, ◌⊎◌, sym, refl, ap, ◌∙◌, subst, inl, inr, zero-le, le_trans, le_of_eq, le_refl}
use Rattle.std.proofs.Common.{lt_of_le_of_lt, lt_irrefl, mul-le-mul_right, mod-lt, mul_assoc, suc-mul, mul_comm}
use Rattle.std.proofs.Common.{add-mul, le_antisymm, one-mul, div-add-mod', zero-mul, mul-one, not-le_of_lt}
use Rattle.std.proofs.Common.{mul_left_comm, arith, lit<, lit≤, ltb→lt, nltb→le, pow_pos, pow_mono}
use native.Mathlib.Nat.{pow-succ', eq_of_mul-eq-mul_right}
use lib.Ieee.{Float, inf, fin, Format, binary64, low, prec, hid, down, size, round, le, to_bits}
use lib.Ieee.Exact.{HasValue}
use lib.Ieee.Fits.{round-fits, down_pos}
use lib.Ieee.Order.{round_mono}
use lib.Ieee.Nearest.{div_mono}
use lib.Ieee.Scale.{round_same, round_val, round_under, grid, grid_scale}
use Rattle.interval.specs.Pattern.{inf_bits, magnitude, fields_magnitude, shift_of}
use Rattle.interval.proofs.Patterns.{hid_pos, magnitude_at}
use Rattle.interval.proofs.Rounding.{magnitude_lt, round_nonneg, at, placed, no_inf, le_or_lt}
pub use Rattle.interval.proofs.Rounding.{magnitude_le, at_ge, at_most}
use Rattle.interval.proofs.Infinite.{value_finite}

-- ---- from 2 ^ 1024 on it is infinite
top_inf : round binary64 false (2 ^ 1024) 1 ≡ inf false
unfolding round
top_inf = refl

pub magnitude_infinity : magnitude binary64 (inf_bits binary64) ≡ 2 ^ 1024 * 2 ^ low binary64
unfolding magnitude
magnitude_infinity = refl

pub over : (a c : ℕ) → 0 < c → at binary64 a c < inf_bits binary64 → a < 2 ^ 1024 * c
unfolding at
over a c C h = elim (le_or_lt (2 ^ 1024 * c) a) [
  | inr y ↦ y
  | inl y ↦
      let m = round_mono binary64 (2 ^ 1024) 1 a c (lit< tt) C (le_trans y (le_of_eq (sym (mul-one a)))) in
      elim (placed binary64 (round binary64 false a c) (round-fits binary64 false a c) (round_nonneg binary64 a c)) [
        | inl w ↦ absurd (lt_irrefl (inf_bits binary64) (lt_of_le_of_lt (le_of_eq (sym w.1)) h))
        | inr w ↦ absurd
            (no_inf (round binary64 false a c) (magnitude binary64 (to_bits binary64 (round binary64 false a c)))
            (2 ^ low binary64) w.1 (subst (λ (z : Float). T (le z (round binary64 false a c))) top_inf m))
      ]
]

-- a pattern's number, where it does not overflow, is below the edge and rounds to the pattern
pub in_range : (i : ℕ) → at binary64 (magnitude binary64 i) (2 ^ low binary64) < inf_bits binary64
    → i < inf_bits binary64
in_range i h = elim (le_or_lt (inf_bits binary64) i) [
  | inr y ↦ y
  | inl y ↦ absurd (not-le_of_lt (over (magnitude binary64 i) (2 ^ low binary64) (pow_pos (low binary64)) h)
      (le_trans (le_of_eq (sym magnitude_infinity)) (magnitude_le binary64 (inf_bits binary64) i y)))
]

pub at_own : (i : ℕ) → at binary64 (magnitude binary64 i) (2 ^ low binary64) < inf_bits binary64
    → at binary64 (magnitude binary64 i) (2 ^ low binary64) ≡ i
at_own i h =
    let I = in_range i h in
    le_antisymm (at_most binary64 (magnitude binary64 i) (2 ^ low binary64) i (pow_pos (low binary64)) I
    (le_refl (magnitude binary64 i * 2 ^ low binary64)))
    (at_ge binary64 (magnitude binary64 i) (2 ^ low binary64) i (pow_pos (low binary64)) I
    (le_refl (magnitude binary64 i * 2 ^ low binary64)))

pub at_same : (f : Format) (a b c d : ℕ) → 0 < b → 0 < d → a * d ≡ c * b → at f a b ≡ at f c d
unfolding at
at_same f a b c d B D e = ap (to_bits f) (round_same f false a b c d B D e)

-- ---- the gap above a pattern, and twice a pattern
pub magnitude_gap : (f : Format) (x t : ℕ) → t < hid f
    → magnitude f (x * hid f + t + 1) ≡ fields_magnitude f x t + 2 ^ shift_of x
magnitude_gap f x t h = elim (le_or_lt (hid f) (t + 1)) [
  | inl g ↦
      ap (magnitude f) (join x (hid f) t (omega arith)) ∙ magnitude_at f (suc x) 0 (hid_pos f) ∙ next x t (omega arith)
  | inr g ↦
      ap (magnitude f) (regroup (x * hid f) t) ∙ magnitude_at f x (suc t) (omega arith) ∙ same x t
]
  where
    join : (x H t : ℕ) → t + 1 ≡ H → x * H + t + 1 ≡ suc x * H + 0
    join x H t e = omega (arith, suc-mul x H)

    regroup : (a t : ℕ) → a + t + 1 ≡ a + suc t
    regroup a t = omega arith

    same : (x t : ℕ) → fields_magnitude f x (suc t) ≡ fields_magnitude f x t + 2 ^ shift_of x
    same zero t = omega arith
    same (suc x) t = ap (λ (z : ℕ). z * 2 ^ x) (regroup' (hid f) t) ∙ add-mul (hid f + t) 1 (2 ^ x)
        ∙ ap (λ (z : ℕ). (hid f + t) * 2 ^ x + z) (one-mul (2 ^ x))
      where
        regroup' : (a t : ℕ) → a + suc t ≡ a + t + 1
        regroup' a t = omega arith

    next : (x t : ℕ) → t + 1 ≡ hid f → fields_magnitude f (suc x) 0 ≡ fields_magnitude f x t + 2 ^ shift_of x
    next zero t e = omega arith
    next (suc x) t e =
        ap (λ (z : ℕ). (hid f + 0) * z) (pow-succ' 2 x) ∙ sym (mul_assoc (hid f + 0) 2 (2 ^ x))
        ∙ ap (λ (z : ℕ). z * 2 ^ x) (twice (hid f) t e)
        ∙ add-mul (hid f + t) 1 (2 ^ x) ∙ ap (λ (z : ℕ). (hid f + t) * 2 ^ x + z) (one-mul (2 ^ x))
      where
        twice : (H t : ℕ) → t + 1 ≡ H → (H + 0) * 2 ≡ H + t + 1
        twice H t e = omega arith

pub gap_of : (f : Format) (x t b : ℕ) → t < hid f → x * hid f + t ≡ b
    → magnitude f (b + 1) ≡ magnitude f b + 2 ^ shift_of x
gap_of f x t b h e = ap (λ (z : ℕ). magnitude f (z + 1)) (sym e) ∙ magnitude_gap f x t h
    ∙ ap (λ (z : ℕ). z + 2 ^ shift_of x) (sym (magnitude_at f x t h) ∙ ap (magnitude f) e)

pub doubled : Format → ℕ → ℕ
doubled f b = cond (ltb b (hid f)) (2 * b) (b + hid f)

pub magnitude_doubled : (f : Format) (b : ℕ) → magnitude f (doubled f b) ≡ 2 * magnitude f b
unfolding doubled
magnitude_doubled f b = go (ltb b (hid f)) (ltb→lt b (hid f)) (nltb→le b (hid f))
  where
    small : (t : ℕ) → t < hid f → magnitude f t ≡ t
    small t h = ap (magnitude f) (plain t (hid f)) ∙ magnitude_at f 0 t h ∙ unit t
      where
        plain : (t H : ℕ) → t ≡ 0 * H + t
        plain t H = omega (arith, zero-mul H)

        unit : (t : ℕ) → t * 2 ^ 0 ≡ t
        unit t = omega arith

    first : (t : ℕ) → t < hid f → magnitude f (hid f + t) ≡ hid f + t
    first t h = ap (magnitude f) (plain t (hid f)) ∙ magnitude_at f 1 t h ∙ unit (hid f + t)
      where
        plain : (t H : ℕ) → H + t ≡ 1 * H + t
        plain t H = omega (arith, one-mul H)

        unit : (t : ℕ) → t * 2 ^ 0 ≡ t
        unit t = omega arith

    high : (x t b : ℕ) → t < hid f → x * hid f + t ≡ b → hid f ≤ b → magnitude f (b + hid f) ≡ 2 * magnitude f b
    high zero t b h e g = absurd (omega (arith, zero-mul (hid f)))
    high (suc x) t b h e g =
        ap (magnitude f) (shift (suc x) (hid f) t b e) ∙ magnitude_at f (suc (suc x)) t h
        ∙ ap (λ (z : ℕ). (hid f + t) * z) (pow-succ' 2 x) ∙ sym (mul_assoc (hid f + t) 2 (2 ^ x))
        ∙ ap (λ (z : ℕ). z * 2 ^ x) (mul_comm (hid f + t) 2) ∙ mul_assoc 2 (hid f + t) (2 ^ x)
        ∙ ap (λ (z : ℕ). 2 * z) (sym (ap (magnitude f) (sym e) ∙ magnitude_at f (suc x) t h))
      where
        shift : (x H t b : ℕ) → x * H + t ≡ b → b + H ≡ suc x * H + t
        shift x H t b e = omega (arith, suc-mul x H)

    go : (c : Bool) → (T c → b < hid f) → (T (not c) → hid f ≤ b)
        → magnitude f (cond c (2 * b) (b + hid f)) ≡ 2 * magnitude f b
    go true y n = let h = y tt in elim (le_or_lt (hid f) (2 * b)) [
      | inl g ↦
          let e : 2 * b ≡ hid f + (2 * b - hid f) = omega arith in
          ap (magnitude f) e ∙ first (2 * b - hid f) (omega arith) ∙ sym e ∙ ap (λ (z : ℕ). 2 * z) (sym (small b h))
      | inr g ↦ small (2 * b) g ∙ ap (λ (z : ℕ). 2 * z) (sym (small b h))
    ]
    go false y n = high (b / hid f) (b % hid f) b (mod-lt b (hid_pos f)) (div-add-mod' b (hid f)) (n tt)

-- the gaps do not shrink
pub magnitude_convex : (f : Format) (b : ℕ) → 2 * magnitude f (b + 1) ≤ magnitude f b + magnitude f (b + 1 + 1)
magnitude_convex f b =
    let H = hid f in
    let x = b / H in
    let t = b % H in
    let y = (b + 1) / H in
    let u = (b + 1) % H in
    let eb : x * H + t ≡ b = div-add-mod' b H in
    let ec : y * H + u ≡ b + 1 = div-add-mod' (b + 1) H in
    let g1 : magnitude f (b + 1) ≡ magnitude f b + 2 ^ shift_of x =
    ap (λ (z : ℕ). magnitude f (z + 1)) (sym eb) ∙ magnitude_gap f x t (mod-lt b (hid_pos f))
    ∙ ap (λ (z : ℕ). z + 2 ^ shift_of x) (sym (magnitude_at f x t (mod-lt b (hid_pos f))) ∙ ap (magnitude f) eb) in
    let g2 : magnitude f (b + 1 + 1) ≡ magnitude f (b + 1) + 2 ^ shift_of y =
    ap (λ (z : ℕ). magnitude f (z + 1)) (sym ec) ∙ magnitude_gap f y u (mod-lt (b + 1) (hid_pos f))
    ∙ ap (λ (z : ℕ). z + 2 ^ shift_of y)
    (sym (magnitude_at f y u (mod-lt (b + 1) (hid_pos f))) ∙ ap (magnitude f) ec) in
    let k : x ≤ y = div_mono b H (b + 1) H (hid_pos f) (hid_pos f) (mul-le-mul_right H (omega arith)) in
    let w : 2 ^ shift_of x ≤ 2 ^ shift_of y = pow_mono (shift_mono x y k) in
    omega arith
  where
    shift_mono : (x y : ℕ) → x ≤ y → shift_of x ≤ shift_of y
    shift_mono zero y h = zero-le
    shift_mono (suc x) zero h = absurd (omega arith)
    shift_mono (suc x) (suc y) h = omega arith

-- the numbers on both sides of a pattern add up to twice its own, or, at the foot of a binade, to half a gap more:
-- rounded, to twice its own
pub magnitude_around : (f : Format) (b : ℕ) → (magnitude f b + magnitude f (b + 1 + 1) ≡ 2 * magnitude f (b + 1))
    ⊎ ((x : ℕ) × (b + 1 ≡ (x + 2) * hid f) × (magnitude f b + magnitude f (b + 1 + 1) ≡ (4 * hid f + 1) * 2 ^ x))
magnitude_around f b =
    let H = hid f in
    let y = (b + 1) / H in
    let u = (b + 1) % H in
    let ec : y * H + u ≡ b + 1 = div-add-mod' (b + 1) H in
    go y u ec (mod-lt (b + 1) (hid_pos f))
  where
    go : (y u : ℕ) → y * hid f + u ≡ b + 1 → u < hid f
        → (magnitude f b + magnitude f (b + 1 + 1) ≡ 2 * magnitude f (b + 1))
        ⊎ ((x : ℕ) × (b + 1 ≡ (x + 2) * hid f) × (magnitude f b + magnitude f (b + 1 + 1) ≡ (4 * hid f + 1) * 2 ^ x))
    go y (suc u) e h =
        let c : y * hid f + u ≡ b = omega arith in
        inl (omega (arith, gap_of f y u b (omega arith) c, gap_of f y (suc u) (b + 1) h e))
    go zero zero e h = absurd (omega (arith, zero-mul (hid f)))
    go (suc zero) zero e h =
        let c : 0 * hid f + (hid f - 1) ≡ b = omega (arith, zero-mul (hid f), one-mul (hid f)) in
        inl (omega (arith, gap_of f 0 (hid f - 1) b (omega arith) c, gap_of f 1 0 (b + 1) h e))
    go (suc (suc x)) zero e h =
        let c : suc x * hid f + (hid f - 1) ≡ b = omega (arith, suc-mul (suc x) (hid f)) in
        let m : magnitude f (b + 1) ≡ (hid f + 0) * 2 ^ suc x =
        ap (magnitude f) (sym e) ∙ magnitude_at f (suc (suc x)) 0 h in
        let w : (hid f + 0) * 2 ^ suc x ≡ 2 * (hid f * 2 ^ x) = ap (λ (z : ℕ). (hid f + 0) * z) (pow-succ' 2 x)
        ∙ ap (λ (z : ℕ). z * (2 * 2 ^ x)) (plus0 (hid f)) ∙ mul_left_comm (hid f) 2 (2 ^ x) in
        let v : (4 * hid f + 1) * 2 ^ x ≡ 4 * (hid f * 2 ^ x) + 2 ^ x =
        add-mul (4 * hid f) 1 (2 ^ x) ∙ omega (arith, mul_assoc 4 (hid f) (2 ^ x), one-mul (2 ^ x)) in
        inr (
          x,
          sym e ∙ foot x (hid f),
          omega (
            arith,
            gap_of f (suc x) (hid f - 1) b (omega arith) c,
            gap_of f (suc (suc x)) 0 (b + 1) h e,
            pow-succ' 2 x,
          ),
        )
      where
        plus0 : (n : ℕ) → n + 0 ≡ n
        plus0 n = omega arith

        foot : (x H : ℕ) → suc (suc x) * H + 0 ≡ (x + 2) * H
        foot x H = plus0 (suc (suc x) * H) ∙ ap (λ (z : ℕ). z * H) (two x)
          where
            two : (x : ℕ) → suc (suc x) ≡ x + 2
            two x = omega arith

-- ---- that sum, rounded
near : grid binary64 (4 * hid binary64 + 1) (2 ^ low binary64) ≡ 4 * hid binary64
unfolding size
near = refl

enough_digits : prec binary64 ≤ size ((4 * hid binary64 + 1) * 2 ^ low binary64 / 2 ^ low binary64)
unfolding size
enough_digits = lit≤ tt

pub magnitude_inj : (f : Format) (i j : ℕ) → magnitude f i ≡ magnitude f j → i ≡ j
magnitude_inj f i j e = le_antisymm (side i j e) (side j i (sym e))
  where
    side : (i j : ℕ) → magnitude f i ≡ magnitude f j → i ≤ j
    side i j e = elim (le_or_lt i j) [
      | inl h ↦ h
      | inr h ↦ absurd (lt_irrefl (magnitude f i) (lt_of_le_of_lt (le_of_eq e) (magnitude_lt f j i h)))
    ]

one_value : (x : Float) (a b l : ℕ) → HasValue x false a l → HasValue x false b l → a ≡ b
one_value (fin s m e) a b l p q = eq_of_mul-eq-mul_right (down e) (down_pos e) a b (sym p.1 ∙ q.1)
one_value lib.Ieee.nan a b l p q = elim p [ ]
one_value (inf _) a b l p q = elim p [ ]

pub at_grid : (f : Format) (a c : ℕ) → at f a c < inf_bits f → magnitude f (at f a c) ≡ grid f a c
unfolding at
at_grid f a c h = elim (placed f (round f false a c) (round-fits f false a c) (round_nonneg f a c)) [
  | inl w ↦ absurd (lt_irrefl (inf_bits f) (lt_of_le_of_lt (le_of_eq (sym w.1)) h))
  | inr w ↦ one_value (round f false a c) (magnitude f (to_bits f (round f false a c))) (grid f a c) (2 ^ low f) w.1
      (round_val f a c (round_under f a c (value_finite (round f false a c) _ _ w.1)))
]

pub foot_magnitude : (f : Format) (x b : ℕ) → b ≡ (x + 2) * hid f → 4 * hid f * 2 ^ x ≡ 2 * magnitude f b
foot_magnitude f x b e =
    let H = hid f in
    let m : magnitude f b ≡ (H + 0) * 2 ^ suc x =
    ap (magnitude f) (e ∙ step x H) ∙ magnitude_at f (suc (suc x)) 0 (hid_pos f) in
    omega (arith, m, four H x, mul_assoc 4 H (2 ^ x))
  where
    step : (x H : ℕ) → (x + 2) * H ≡ suc (suc x) * H + 0
    step x H = ap (λ (z : ℕ). z * H) (two x) ∙ plus (suc (suc x) * H)
      where
        two : (x : ℕ) → x + 2 ≡ suc (suc x)
        two x = omega arith

        plus : (n : ℕ) → n ≡ n + 0
        plus n = omega arith

    four : (H x : ℕ) → (H + 0) * 2 ^ suc x ≡ 2 * (H * 2 ^ x)
    four H x = ap (λ (z : ℕ). (H + 0) * z) (pow-succ' 2 x) ∙ ap (λ (z : ℕ). z * (2 * 2 ^ x)) (plus0 H)
        ∙ mul_left_comm H 2 (2 ^ x)
      where
        plus0 : (n : ℕ) → n + 0 ≡ n
        plus0 n = omega arith

-- the two neighbours of a pattern add up to twice it, rounded
pub around : (b : ℕ)
    → at binary64 (magnitude binary64 b + magnitude binary64 (b + 1 + 1)) (2 ^ low binary64) < inf_bits binary64
    → at binary64 (magnitude binary64 b + magnitude binary64 (b + 1 + 1)) (2 ^ low binary64) ≡ doubled binary64 (b + 1)
around b h = elim (magnitude_around binary64 b) [
  | inl e ↦
      let q : magnitude binary64 b + magnitude binary64 (b + 1 + 1) ≡ magnitude binary64 (doubled binary64 (b + 1)) =
      e ∙ sym (magnitude_doubled binary64 (b + 1)) in
      subst (λ (z : ℕ). at binary64 z (2 ^ low binary64) < inf_bits binary64
      → at binary64 z (2 ^ low binary64) ≡ doubled binary64 (b + 1)) (sym q) (at_own (doubled binary64 (b + 1))) h
  | inr w ↦
      let x = w.0 in
      let a = 4 * hid binary64 + 1 in
      subst (λ (z : ℕ). at binary64 z (2 ^ low binary64) < inf_bits binary64
      → at binary64 z (2 ^ low binary64) ≡ doubled binary64 (b + 1)) (sym w.2)
      (λ (k : at binary64 (a * 2 ^ x) (2 ^ low binary64) < inf_bits binary64).
      magnitude_inj binary64 (at binary64 (a * 2 ^ x) (2 ^ low binary64)) (doubled binary64 (b + 1))
      (at_grid binary64 (a * 2 ^ x) (2 ^ low binary64) k ∙ grid_scale binary64 a (2 ^ low binary64) x
      (pow_pos (low binary64)) enough_digits ∙ ap (λ (z : ℕ). z * 2 ^ x) near ∙ foot_magnitude binary64 x (b + 1) w.1
      ∙ sym (magnitude_doubled binary64 (b + 1)))) h
]
