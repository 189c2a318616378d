-- A step is one rank. So a rounded fraction, stepped outward, is past the fraction.
use Rattle.std.proofs.Common.{◌≡◌, ℕ, zero, suc, ◌+◌, ◌-◌, ◌*◌, ◌^◌, ◌<◌, ◌≤◌, Bool, true, false, not, T, ℤ, sym, refl}
use Rattle.std.proofs.Common.{ap, ◌∙◌, subst, inl, inr, true≢false, zero-le, lt_irrefl, zero-lt-suc, suc-mul, mul_comm}
use Rattle.std.proofs.Common.{eq-zero-or-pos, eq-or-lt_of_le, zero-mul, arith, lit≤, pow_pos}
use lib.Ieee.{Float, nan, inf, fin, Format, binary64, low, prec, up, down, neg, fits, to_bits, of_bits, is_nan, hid}
use lib.Ieee.{ones}
use lib.Ieee.Bits.{of_bits-to_bits, to_bits-of_bits, of_bits-fits, nan_bits_is}
use lib.Ieee.Exact.{HasValue}
use lib.Ieee.Fits.{neg-fits, inf-fits, nan-fits}
use lib.Ieee.Scale.{finite}
use Rattle.interval.specs.Enclosure.{units_of}
use Rattle.interval.specs.Pattern.{inf_bits, magnitude}
use Rattle.interval.specs.Step.{next_up, next_down}
use Rattle.interval.proofs.Integers.{P, N}
use Rattle.interval.proofs.Patterns.{magnitude_zero, bits_under, bits_infinity, bits_val, bits_pos, of_bits-val}
use Rattle.interval.proofs.Patterns.{no_nan}
use Rattle.interval.proofs.Rounding.{magnitude_lt, NonNegative}
use Rattle.interval.proofs.Rank.{rank, units-P, units-N, rank_in, nonneg_rank, zero_value, rank_of, under_ρ}
use Rattle.interval.proofs.Rank.{over_ρ}

-- ---- the value of a pattern that is not negative, and its rank
value_nonneg : (v : Float) (a l : ℕ) → HasValue v false a l → NonNegative v
unfolding NonNegative
value_nonneg (fin true m e) a l h = absurd (true≢false h.0)
value_nonneg (fin false m e) a l h = inr (m, e, refl)
value_nonneg nan a l h = elim h [ ]
value_nonneg (inf _) a l h = elim h [ ]

pub pattern_nonneg : (f : Format) (b : ℕ) → b ≤ inf_bits f → NonNegative (of_bits f b)
unfolding NonNegative
pattern_nonneg f b h = elim (eq-or-lt_of_le h) [
  | inl e ↦ inl (ap (of_bits f) (e ∙ sym (bits_infinity f)) ∙ of_bits-to_bits f (inf false) (inf-fits f false))
  | inr l ↦ value_nonneg (of_bits f b) (magnitude f b) (2 ^ low f) (of_bits-val f b l)
]

pub pattern_bits : (f : Format) (b : ℕ) → b ≤ inf_bits f → to_bits f (of_bits f b) ≡ b
pattern_bits f b h =
    to_bits-of_bits f b (omega (arith, mul_comm (hid f) (suc (ones f)), suc-mul (ones f) (hid f), pow_pos (prec f - 1)))
    (subst (λ (z : Bool). T (not z)) (nan_bits_is f b) (no_nan f b h))

pub pattern_rank : (f : Format) (b : ℕ) → b ≤ inf_bits f
    → (rank f (of_bits f b) ≡ inf_bits f + b) × (rank f (neg (of_bits f b)) ≡ inf_bits f - b)
pattern_rank f b h =
    let w = nonneg_rank f (of_bits f b) (pattern_nonneg f b h) in (
      w.0 ∙ ap (λ (z : ℕ). inf_bits f + z) (pattern_bits f b h),
      w.1 ∙ ap (λ (z : ℕ). inf_bits f - z) (pattern_bits f b h),
    )

pub zero_bits : (f : Format) (e : ℤ) → T (fits f (fin false 0 e)) → to_bits f (fin false 0 e) ≡ 0
zero_bits f e t =
    let b = to_bits f (fin false 0 e) in
    let n : magnitude f b ≡ 0 = zero_value (fin false 0 e) 1 (magnitude f b) (2 ^ low f)
    (refl, ap (λ (z : ℕ). z * 1) (zero-mul (up e)) ∙ sym (zero-mul (down e))) (bits_val f 0 e t) (zero-lt-suc 0) in
    elim (eq-zero-or-pos b) [
      | inl z ↦ z
      | inr h ↦ absurd (lt_irrefl 0
          (subst (λ (k : ℕ). k < 0) (magnitude_zero f) (subst (λ (k : ℕ). magnitude f 0 < k) n (magnitude_lt f 0 b h))))
    ]

-- ---- the steps
pub positive_fits : (m : ℕ) (e : ℤ) → T (fits binary64 (fin true m e)) → T (fits binary64 (fin false m e))
unfolding neg
positive_fits m e t = neg-fits binary64 (fin true m e) t

abbrev pub rising : Float → Bool
rising nan = false
rising (inf s) = s
rising (fin s m e) = true

abbrev pub falling : Float → Bool
falling nan = false
falling (inf s) = not s
falling (fin s m e) = true

pub rank_up : (x : Float) → T (fits binary64 x) → T (rising x) → rank binary64 (next_up x) ≡ rank binary64 x + 1
unfolding next_up rank
rank_up nan t h = absurd h
rank_up (inf false) t h = absurd h
rank_up (inf true) t h =
    let b = bits_infinity binary64 in
    let w = (pattern_rank binary64 (to_bits binary64 (inf false) - 1) (omega arith)).1 in
    omega arith
rank_up (fin false zero e) t h =
    let w = (pattern_rank binary64 1 (lit≤ tt)).0 in
    omega (arith, zero_bits binary64 e t)
rank_up (fin true zero e) t h =
    let w = (pattern_rank binary64 1 (lit≤ tt)).0 in
    omega (arith, zero_bits binary64 e (positive_fits zero e t))
rank_up (fin false (suc m) e) t h =
    let u = bits_under binary64 (suc m) e t in
    let w = (pattern_rank binary64 (to_bits binary64 (fin false (suc m) e) + 1) (omega arith)).0 in
    omega arith
rank_up (fin true (suc m) e) t h =
    let v = positive_fits (suc m) e t in
    let u = bits_under binary64 (suc m) e v in
    let z = bits_pos binary64 m e v in
    let w = (pattern_rank binary64 (to_bits binary64 (fin false (suc m) e) - 1) (omega arith)).1 in
    omega arith

pub rank_neg : (x : Float) → T (fits binary64 x) → T (not (is_nan x))
    → rank binary64 (neg x) ≡ inf_bits binary64 + inf_bits binary64 - rank binary64 x
unfolding rank neg is_nan
rank_neg nan t h = absurd h
rank_neg (inf true) t h = refl
rank_neg (inf false) t h = refl
rank_neg (fin true m e) t h = let u = bits_under binary64 m e (positive_fits m e t) in omega arith
rank_neg (fin false m e) t h = let u = bits_under binary64 m e t in omega arith

pub rank_le : (x : Float) → T (fits binary64 x) → rank binary64 x ≤ inf_bits binary64 + inf_bits binary64
unfolding rank
rank_le nan t = zero-le
rank_le (inf true) t = lit≤ tt
rank_le (inf false) t = lit≤ tt
rank_le (fin true m e) t = omega arith
rank_le (fin false m e) t = let u = bits_under binary64 m e t in omega arith

pub up_fits : (x : Float) → T (fits binary64 (next_up x))
unfolding next_up
up_fits nan = nan-fits binary64
up_fits (inf false) = inf-fits binary64 false
up_fits (inf true) = neg-fits binary64 (of_bits binary64 (to_bits binary64 (inf false) - 1))
    (of_bits-fits binary64 (to_bits binary64 (inf false) - 1))
up_fits (fin s zero e) = of_bits-fits binary64 1
up_fits (fin false (suc m) e) = of_bits-fits binary64 (to_bits binary64 (fin false (suc m) e) + 1)
up_fits (fin true (suc m) e) = neg-fits binary64 (of_bits binary64 (to_bits binary64 (fin false (suc m) e) - 1))
    (of_bits-fits binary64 (to_bits binary64 (fin false (suc m) e) - 1))

pub down_fits : (x : Float) → T (fits binary64 (next_down x))
down_fits x = neg-fits binary64 (next_up (neg x)) (up_fits (neg x))

-- ---- finite after a step
no_nan_finite : (x : Float) → T (finite x) → T (not (is_nan x))
unfolding is_nan
no_nan_finite (fin s m e) h = tt
no_nan_finite nan h = elim h [ ]
no_nan_finite (inf _) h = elim h [ ]

pub finite_neg : (x : Float) → T (finite (neg x)) → T (finite x)
unfolding neg
finite_neg nan h = h
finite_neg (inf s) h = h
finite_neg (fin s m e) h = tt

up_rising : (x : Float) → T (finite (next_up x)) → T (rising x)
unfolding next_up
up_rising nan h = absurd h
up_rising (inf false) h = absurd h
up_rising (inf true) h = tt
up_rising (fin s m e) h = tt

neg_rising : (x : Float) → T (rising (neg x)) → T (not (is_nan x))
unfolding neg is_nan
neg_rising nan h = h
neg_rising (inf s) h = tt
neg_rising (fin s m e) h = tt

pub up_rank : (x : Float) → T (fits binary64 x) → T (finite (next_up x))
    → rank binary64 (next_up x) ≡ rank binary64 x + 1
up_rank x t h = rank_up x t (up_rising x h)

pub down_rank : (x : Float) → T (fits binary64 x) → T (finite (next_down x))
    → rank binary64 (next_down x) + 1 ≡ rank binary64 x
down_rank x t h =
    let y = next_up (neg x) in
    let g : T (finite y) = finite_neg y h in
    let r = up_rising (neg x) g in
    let a = rank_neg y (up_fits (neg x)) (no_nan_finite y g) in
    let b = rank_up (neg x) (neg-fits binary64 x t) r in
    let c = rank_neg x t (neg_rising x r) in
    let d = rank_in binary64 y (up_fits (neg x)) g in
    omega (arith, rank_le x t)

-- ---- a rounded fraction, stepped outward. v has the rank of (p - q) / c rounded, or past it
pub above_all : (v : Float) (p q c : ℕ) → T (fits binary64 v) → T (finite (next_up v)) → 0 < c
    → rank_of binary64 p q c ≤ rank binary64 v
    → p * 2 ^ low binary64 + N (units_of binary64 (next_up v)) * c
    ≤ P (units_of binary64 (next_up v)) * c + q * 2 ^ low binary64
above_all v p q c t h C k =
    let r = next_up v in
    let i = rank_in binary64 r (up_fits v) h in
    let e = up_rank v t h in
    rw (units-P binary64 r (up_fits v) h, units-N binary64 r (up_fits v) h)
    (over_ρ binary64 p q c (rank binary64 r) C i.1 (omega arith))

pub below_all : (v : Float) (p q c : ℕ) → T (fits binary64 v) → T (finite (next_down v)) → 0 < c
    → rank binary64 v ≤ rank_of binary64 p q c
    → P (units_of binary64 (next_down v)) * c + q * 2 ^ low binary64
    ≤ p * 2 ^ low binary64 + N (units_of binary64 (next_down v)) * c
below_all v p q c t h C k =
    let r = next_down v in
    let i = rank_in binary64 r (down_fits v) h in
    let e = down_rank v t h in
    rw (units-P binary64 r (down_fits v) h, units-N binary64 r (down_fits v) h)
    (under_ρ binary64 p q c (rank binary64 r) C i.0 (omega arith))
