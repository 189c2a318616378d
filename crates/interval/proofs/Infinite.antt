-- What infinities and zeros do: their products, their signs, and steps from and to them.
use Rattle.std.proofs.Common.{◌≡◌, ℕ, zero, suc, ◌+◌, ◌-◌, ◌*◌, ◌^◌, ◌<◌, ◌≤◌, Bool, true, false, cond, not, T, ◌⊎◌, ℤ}
use Rattle.std.proofs.Common.{sym, refl, ap, ◌∙◌, subst, inl, inr, mul-pos, zero-mul, arith}
use lib.Dec.{eqb-suc-zero}
use lib.Ieee.{Float, nan, inf, fin, binary64, low, up, down, round, mul, neg, unlike, fits, to_bits, of_bits, is_nan}
use lib.Ieee.Exact.{HasValue}
use lib.Ieee.Fits.{down_pos}
use lib.Ieee.Scale.{finite}
use Rattle.interval.specs.Enclosure.{units_of}
use Rattle.interval.specs.Pattern.{inf_bits, magnitude}
use Rattle.interval.specs.Step.{next_up, next_down}
use Rattle.interval.proofs.Integers.{P, N}
use Rattle.interval.proofs.Patterns.{of_bits-val, magnitude_zero, bits_under}
use Rattle.interval.proofs.Rounding.{NonNegative}
use Rattle.interval.proofs.Rank.{rank, units-P, round_rank, none_at}
use Rattle.interval.proofs.Outward.{down_fits, down_rank, pattern_nonneg, positive_fits}
use Rattle.interval.proofs.Product.{round_number}
use Rattle.interval.proofs.Enclosure.Sqrt.{zero_rank, zero_units, zero-units-N}

abbrev pub Zero : Float → Type 0
Zero u = (s : Bool) × (e : ℤ) × (u ≡ fin s zero e)

-- ---- a factor of an infinity
pub times_inf : (s : Bool) (m : ℕ) (e : ℤ) (t : Bool) → mul binary64 (fin s (suc m) e) (inf t) ≡ inf (unlike s t)
unfolding mul
times_inf s m e t = ap (λ (b : Bool). cond b nan (inf (unlike s t))) (eqb-suc-zero m)

-- ---- a factor of 0
pub zero_times : (u a : Float) → Zero u → T (finite a)
    → (rank binary64 (mul binary64 u a) ≡ inf_bits binary64) × T (not (is_nan (mul binary64 u a)))
zero_times u a w h =
    subst (λ (u : Float). (rank binary64 (mul binary64 u a) ≡ inf_bits binary64) × T (not (is_nan (mul binary64 u a))))
    (sym w.2) (go a h)
  where
    flat : (s : Bool) (x c : ℕ) → 0 < c → x ≡ 0 → rank binary64 (round binary64 s x c) ≡ inf_bits binary64
    flat false x c C z = let k = none_at binary64 x c C z in round_rank binary64 false x c ∙ omega arith
    flat true x c C z = let k = none_at binary64 x c C z in round_rank binary64 true x c ∙ omega arith

    go : (a : Float) → T (finite a) → (rank binary64 (mul binary64 (fin w.0 zero w.1) a) ≡ inf_bits binary64)
        × T (not (is_nan (mul binary64 (fin w.0 zero w.1) a)))
    go (fin t n d) h =
        let x = 0 * up w.1 * (n * up d) in
        let c = down w.1 * down d in
        unfold mul in (
          flat (unlike w.0 t) x c (mul-pos (down_pos w.1) (down_pos d))
              (ap (λ (z : ℕ). z * (n * up d)) (zero-mul (up w.1)) ∙ zero-mul (n * up d)),
          round_number binary64 (unlike w.0 t) x c,
        )
    go nan h = elim h [ ]
    go (inf _) h = elim h [ ]

-- ---- the ends about 0
pub under_zero : (m : Float) → T (fits binary64 m) → T (finite (next_down m)) → rank binary64 m ≤ inf_bits binary64
    → P (units_of binary64 (next_down m)) ≡ 0
under_zero m t h k =
    let a = down_rank m t h in
    units-P binary64 (next_down m) (down_fits m) h ∙ ap (magnitude binary64) (omega arith) ∙ magnitude_zero binary64

pub zero-P : (u : Float) → T (fits binary64 u) → Zero u → (P (units_of binary64 u) ≡ 0) × (N (units_of binary64 u) ≡ 0)
zero-P u t w = subst
    (λ (u : Float). T (fits binary64 u) → (P (units_of binary64 u) ≡ 0) × (N (units_of binary64 u) ≡ 0)) (sym w.2)
    (λ (t : T (fits binary64 (fin w.0 zero w.1))). (zero_units w.0 w.1 t, zero-units-N w.0 w.1 t)) t

pub zero_at : (x : Float) → T (fits binary64 x) → Zero x → T (finite x) × (rank binary64 x ≡ inf_bits binary64)
zero_at x t z = subst (λ (w : Float). T (fits binary64 w) → T (finite w) × (rank binary64 w ≡ inf_bits binary64))
    (sym z.2) (λ (u : T (fits binary64 (fin z.0 zero z.1))). (tt, zero_rank z.0 z.1 u)) t

-- ---- steps
pub neg_finite : (x : Float) → T (finite x) → T (finite (neg x))
unfolding neg
neg_finite (fin s m e) h = tt
neg_finite nan h = elim h [ ]
neg_finite (inf _) h = elim h [ ]

pub value_finite : (v : Float) (a l : ℕ) → HasValue v false a l → T (finite v)
value_finite (fin s m e) a l h = tt
value_finite nan a l h = elim h [ ]
value_finite (inf _) a l h = elim h [ ]

pub down_finite : (v : Float) → NonNegative v → T (fits binary64 v) → T (finite (next_down v))
unfolding NonNegative next_up neg
down_finite v (inl e) t =
    subst (λ (z : Float). T (finite (next_down z))) (sym e) (unfold of_bits in unfold to_bits in tt)
down_finite v (inr w) t =
    subst (λ (z : Float). T (fits binary64 z) → T (finite (next_down z))) (sym w.2) (go w.0 w.1) t
  where
    go : (m : ℕ) (e : ℤ) → T (fits binary64 (fin false m e)) → T (finite (next_down (fin false m e)))
    go zero e t = unfold of_bits in tt
    go (suc m) e t =
        let b = to_bits binary64 (fin false (suc m) e) - 1 in
        let u = bits_under binary64 (suc m) e t in
        neg_finite (neg (of_bits binary64 b)) (neg_finite (of_bits binary64 b) (value_finite (of_bits binary64 b)
        (magnitude binary64 b) (2 ^ low binary64) (of_bits-val binary64 b (omega arith))))

pub nonneg_finite : (v : Float) → NonNegative v → T (finite v) ⊎ (v ≡ inf false)
unfolding NonNegative
nonneg_finite v (inl e) = inr e
nonneg_finite v (inr w) = inl (subst (λ (z : Float). T (finite z)) (sym w.2) tt)

-- a step of a number is finite or the infinity outward
pub up_any : (v : Float) → T (fits binary64 v) → T (not (is_nan v)) → T (finite (next_up v)) ⊎ (next_up v ≡ inf false)
unfolding next_up is_nan
up_any nan t h = absurd h
up_any (inf false) t h = inr refl
up_any (inf true) t h = inl (unfold neg in unfold of_bits in unfold to_bits in tt)
up_any (fin s zero e) t h = inl (unfold of_bits in tt)
up_any (fin false (suc m) e) t h =
    let u = bits_under binary64 (suc m) e t in
    nonneg_finite (of_bits binary64 (to_bits binary64 (fin false (suc m) e) + 1))
    (pattern_nonneg binary64 (to_bits binary64 (fin false (suc m) e) + 1) (omega arith))
up_any (fin true (suc m) e) t h =
    let b = to_bits binary64 (fin false (suc m) e) - 1 in
    let u = bits_under binary64 (suc m) e (positive_fits (suc m) e t) in
    inl (neg_finite (of_bits binary64 b)
    (value_finite (of_bits binary64 b) (magnitude binary64 b) (2 ^ low binary64)
    (of_bits-val binary64 b (omega arith))))

-- ---- signs
pub neg_neg : (x : Float) → neg (neg x) ≡ x
unfolding neg
neg_neg nan = refl
neg_neg (inf true) = refl
neg_neg (inf false) = refl
neg_neg (fin true m e) = refl
neg_neg (fin false m e) = refl

pub neg_inf : neg (inf false) ≡ inf true
unfolding neg
neg_inf = refl
