-- The inverse and the quotient, end by end. The inverse of a divisor above 0 has a finite lower end (1 / +inf is 0,
-- stepped down) and an upper end above 0 (1 / a tiny number is +inf).
-- Of one below 0 it is the same with the signs changed. So no inverse is [±0, ±0] or [-inf, +inf], and the law of
-- products applies without its condition.
use Rattle.std.proofs.Common.{◌≡◌, ℕ, zero, suc, ◌*◌, ◌^◌, ◌<◌, Bool, true, false, cond, ◌&&◌, T, eqb, ◌⊎◌, ℤ, pos}
use Rattle.std.proofs.Common.{negsuc, ◌*ℤ◌, neg_ℤ, sym, refl, ap, ◌∙◌, subst, inl, inr, true≢false, zero-lt-suc}
use Rattle.std.proofs.Common.{eq-zero-or-pos, mul-pos, one-mul, zero-mul, arith, pow_pos}
use lib.IntN.{neg_ℤ-neg_ℤ, one, *ℤ-one, *ℤ_comm}
use lib.Signed.{le_z}
use lib.Ieee.{Float, nan, inf, fin, binary64, low, up, down, round, div, neg, lt, le, eq, fits}
use lib.Ieee.Fits.{div-fits}
use lib.Ieee.Scale.{finite}
use Rattle.interval.specs.declared.Scalar.{Scalar}
use Rattle.interval.specs.Enclosure.{units_of, Fits}
use Rattle.interval.specs.OneSided.{LowerBound, UpperBound, Within, WithinRatio}
use Rattle.interval.specs.Result.{ok, refused}
use Rattle.interval.specs.Scalar.{zero64, one64, pick, neg_of, mul_of, inverse, holds_zero, div_of}
use Rattle.interval.specs.Step.{next_up, next_down}
use Rattle.interval.proofs.Integers.{P, N, le_of_parts}
use Rattle.interval.proofs.Rounding.{NonNegative, round_nonneg}
use Rattle.interval.proofs.Rank.{nonneg_rank}
use Rattle.interval.proofs.Outward.{finite_neg, up_fits, up_rank}
use Rattle.interval.proofs.OrderUnits.{units_le}
use Rattle.interval.proofs.Enclosure.Add.{scaled_le}
use Rattle.interval.proofs.Product.{nonneg_number}
use Rattle.interval.proofs.Inverse.{Above, Below, one_over, sides_pos, some_above, some_below, reach_pos}
use Rattle.interval.proofs.Inverse.{lo_pos', hi_pos', inverse_fits}
use Rattle.interval.proofs.Infinite.{Zero, zero_at, down_finite, neg_neg}
use Rattle.interval.proofs.OneSided.Ends.{says, zero_fits, outward_fits, step_up, zero_down}
use Rattle.interval.proofs.OneSided.Neg.{neg_within, neg_ends_fit, un_within}
use Rattle.interval.proofs.OneSided.Abs.{zero_none, low_zero}
use Rattle.interval.proofs.OneSided.Mul.{above_units, neg_zero, round_not, mul_within}

-- r holds p / c, one of its ends is finite, and it is not [±0, ±0]
record Inverted (r : Scalar) (p : ℤ) (c : ℕ) : Type 0 where
  within : Within r p c
  some_finite : T (finite r.lo) ⊎ T (finite r.hi)
  not_zero : Zero r.lo → Zero r.hi → ⊥

-- r holds k / q
abbrev InverseOf : Scalar → ℤ → ℕ → Type 0
InverseOf r (pos zero) k = ⊥
InverseOf r (pos (suc n)) k = Inverted r (pos k) (suc n)
InverseOf r (negsuc n) k = Inverted r (neg_ℤ (pos k)) (suc n)

-- ---- a divisor above 0
inv_above : (x : Float) → Above x → NonNegative (div binary64 one64 x)
inv_above x w = subst (λ (x : Float). NonNegative (div binary64 one64 x)) (sym w.2) (subst NonNegative
    (sym (one_over false w.0 w.1)) (round_nonneg binary64 (1 * down w.1) (suc w.0 * up w.1 * 1)))

over_inf : div binary64 one64 (inf false) ≡ zero64
unfolding div
over_inf = refl

low_inverse : (x : Float) (n k : ℕ) → T (fits binary64 x) → UpperBound x (pos (suc n)) k
    → T (finite (next_down (div binary64 one64 x)))
    × T (le_z (units_of binary64 (next_down (div binary64 one64 x)) *ℤ pos (suc n)) (pos k *ℤ pos (2 ^ low binary64)))
low_inverse x n k t (inl e) =
    subst (λ (v : Float). T (finite (next_down v))
    × T (le_z (units_of binary64 (next_down v) *ℤ pos (suc n)) (pos k *ℤ pos (2 ^ low binary64))))
    (sym (ap (div binary64 one64) e ∙ over_inf))
    (zero_down.0, low_zero (units_of binary64 (next_down zero64)) k (suc n) (2 ^ low binary64) zero_down.1)
low_inverse x n k t (inr g) =
    let w =
    some_above x t g.0 (reach_pos (units_of binary64 x) n k (2 ^ low binary64) (pow_pos (low binary64)) g.1) in
    let h = down_finite (div binary64 one64 x) (inv_above x w) (div-fits binary64 one64 x) in
    (h, lo_pos' x w t h (suc n) k g.1)

-- stepped up it is above 0
no_zero : (v : Float) → NonNegative v → T (fits binary64 v) → Zero (next_up v) → ⊥
no_zero v w t z =
    let k = zero_at (next_up v) (up_fits v) z in
    omega (arith, up_rank v t k.0, k.1, (nonneg_rank binary64 v w).0)

above_finite : (x : Float) → Above x → T (finite x)
above_finite x w = subst (λ (z : Float). T (finite z)) (sym w.2) tt

inverse_pos : (y : Scalar) (n k : ℕ) → Fits y → Above y.lo → Within y (pos (suc n)) k
    → Inverted (inverse y) (pos k) (suc n)
inverse_pos y n k t w a =
    let v = div binary64 one64 y.lo in
    let o = inv_above y.lo w in
    let d = div-fits binary64 one64 y.lo in
    let l = low_inverse y.hi n k t.1 a.high_end in
    record {
      within = record {
        low_end = inr l;
        high_end = step_up v (d, (nonneg_number v o).0)
            (λ h. hi_pos' y.lo w t.0 h (suc n) k (says y.lo (above_finite y.lo w) a.low_end));
      };
      some_finite = inl l.0;
      not_zero = λ u z. no_zero v o d z;
    }

-- what lies within is above 0
above : (x : Float) → Above x → T (fits binary64 x) → (0 < P (units_of binary64 x)) × (N (units_of binary64 x) ≡ 0)
above x w = subst (λ (x : Float). T (fits binary64 x) → (0 < P (units_of binary64 x)) × (N (units_of binary64 x) ≡ 0))
    (sym w.2) (λ (t : T (fits binary64 (fin false (suc w.0) w.1))).
    (above_units w.0 w.1 t, sides_pos (suc w.0) w.1))

none_below : (u q : ℤ) (k l : ℕ) → 0 < k → 0 < P u → N u ≡ 0 → P q ≡ 0 → T (le_z (u *ℤ pos k) (q *ℤ pos l)) → ⊥
none_below u q k l K h z e g = omega
    (arith, mul-pos h K, scaled_le u q k l g, ap (λ (t : ℕ). t * k) z, ap (λ (t : ℕ). t * l) e, zero-mul k, zero-mul l)

not_above : (x : Float) (q : ℤ) (k : ℕ) → 0 < k → T (fits binary64 x) → Above x → LowerBound x q k → P q ≡ 0 → ⊥
not_above x q k K t w a e = let u = above x w t in
    none_below (units_of binary64 x) q k (2 ^ low binary64) K u.0 u.1 e (says x (above_finite x w) a)

inverse_above : (y : Scalar) (q : ℤ) (k : ℕ) → 0 < k → Fits y → Above y.lo → Within y q k → InverseOf (inverse y) q k
inverse_above y (pos (suc n)) k K t w a = inverse_pos y n k t w a
inverse_above y (pos zero) k K t w a = not_above y.lo (pos zero) k K t.0 w a.low_end refl
inverse_above y (negsuc n) k K t w a = absurd (not_above y.lo (negsuc n) k K t.0 w a.low_end refl)

-- ---- a divisor below 0: the signs are changed before and after
over_neg : (x : Float) → div binary64 one64 (neg x) ≡ neg (div binary64 one64 x)
unfolding div neg
over_neg nan = refl
over_neg (inf true) = refl
over_neg (inf false) = refl
over_neg (fin true n d) = go (eqb n 0)
  where
    go : (b : Bool) → cond b (inf false) (round binary64 false (1 * 1 * down d) (n * up d * 1))
        ≡ neg (cond b (inf true) (round binary64 true (1 * 1 * down d) (n * up d * 1)))
    go true = refl
    go false = round_not true (1 * 1 * down d) (n * up d * 1)
over_neg (fin false n d) = go (eqb n 0)
  where
    go : (b : Bool) → cond b (inf true) (round binary64 true (1 * 1 * down d) (n * up d * 1))
        ≡ neg (cond b (inf false) (round binary64 false (1 * 1 * down d) (n * up d * 1)))
    go true = refl
    go false = round_not false (1 * 1 * down d) (n * up d * 1)

inverse_neg : (y : Scalar) → inverse (neg_of y) ≡ neg_of (inverse y)
inverse_neg y = λ i. record { lo = low i; hi = high i }
  where
    low : next_down (div binary64 one64 (neg y.lo)) ≡ neg (next_up (div binary64 one64 y.lo))
    low = ap next_down (over_neg y.lo) ∙ ap (λ (z : Float). neg (next_up z)) (neg_neg (div binary64 one64 y.lo))

    high : next_up (div binary64 one64 (neg y.hi)) ≡ neg (next_down (div binary64 one64 y.hi))
    high = ap next_up (over_neg y.hi) ∙ sym (neg_neg (next_up (neg (div binary64 one64 y.hi))))

turned : (r : Scalar) (p : ℤ) (c : ℕ) → Inverted (neg_of r) (neg_ℤ p) c → Inverted r p c
turned r p c h = record {
  within = un_within r p c h.within;
  some_finite = elim h.some_finite [ inl f ↦ inr (finite_neg r.hi f) | inr f ↦ inl (finite_neg r.lo f) ];
  not_zero = λ u v. h.not_zero (zero_neg r.hi v) (zero_neg r.lo u);
}
  where
    zero_neg : (x : Float) → Zero x → Zero (neg x)
    zero_neg x z = neg_zero (neg x) (subst Zero (sym (neg_neg x)) z)

turned_inverse : (r : Scalar) (q : ℤ) (k : ℕ) → InverseOf (neg_of r) (neg_ℤ q) k → InverseOf r q k
turned_inverse r (pos zero) k h = h
turned_inverse r (pos (suc n)) k h = turned r (pos k) (suc n) h
turned_inverse r (negsuc n) k h =
    turned r (neg_ℤ (pos k)) (suc n) (subst (λ (p : ℤ). Inverted (neg_of r) p (suc n)) (sym (neg_ℤ-neg_ℤ (pos k))) h)

above_neg : (x : Float) → Below x → Above (neg x)
unfolding neg
above_neg x w = (w.0, w.1, ap neg w.2)

inverse_below : (y : Scalar) (q : ℤ) (k : ℕ) → 0 < k → Fits y → Below y.hi → Within y q k → InverseOf (inverse y) q k
inverse_below y q k K t w a =
    turned_inverse (inverse y) q k
    (subst (λ (r : Scalar). InverseOf r (neg_ℤ q) k) (inverse_neg y)
    (inverse_above (neg_of y) (neg_ℤ q) k K (neg_ends_fit y t) (above_neg y.hi w) (neg_within y q k a)))

-- ---- either
minus_le : le (inf true) zero64 ≡ true
unfolding le lt eq
minus_le = refl

plus_le : le zero64 (inf false) ≡ true
unfolding le lt eq
plus_le = refl

above_end : (x : Float) (p : ℤ) (c : ℕ) → T (fits binary64 x) → LowerBound x p c → le x zero64 ≡ false → Above x
above_end x p c t (inl e) h = absurd (true≢false (sym minus_le ∙ ap (λ (z : Float). le z zero64) (sym e) ∙ h))
above_end x p c t (inr g) h = elim (eq-zero-or-pos (P (units_of binary64 x))) [
  | inl z ↦ absurd (subst T h (units_le x zero64 t g.0 zero_fits.0 tt
      (le_of_parts (units_of binary64 x) (units_of binary64 zero64) (omega (arith, zero_none.1)))))
  | inr k ↦ some_above x t g.0 k
]

below_end : (x : Float) (p : ℤ) (c : ℕ) → T (fits binary64 x) → UpperBound x p c → le zero64 x ≡ false → Below x
below_end x p c t (inl e) h = absurd (true≢false (sym plus_le ∙ ap (le zero64) (sym e) ∙ h))
below_end x p c t (inr g) h = elim (eq-zero-or-pos (N (units_of binary64 x))) [
  | inl z ↦ absurd (subst T h (units_le zero64 x zero_fits.0 tt t g.0
      (le_of_parts (units_of binary64 zero64) (units_of binary64 x) (omega (arith, zero_none.0)))))
  | inr k ↦ some_below x t g.0 k
]

inverted : (y : Scalar) (q : ℤ) (k : ℕ) → 0 < k → Fits y → holds_zero y ≡ false → Within y q k
    → InverseOf (inverse y) q k
inverted y q k K t z a = go (le y.lo zero64) (le zero64 y.hi) (above_end y.lo q k t.0 a.low_end)
    (below_end y.hi q k t.1 a.high_end) z
  where
    go : (b c : Bool) → (b ≡ false → Above y.lo) → (c ≡ false → Below y.hi) → (b && c) ≡ false
        → InverseOf (inverse y) q k
    go true true f g h = absurd (true≢false h)
    go true false f g h = inverse_below y q k K t (g refl) a
    go false c f g h = inverse_above y q k K t (f refl) a

-- what lies within a divisor is not 0
pub divisor_not_zero : (y : Scalar) (k : ℕ) → 0 < k → Fits y → holds_zero y ≡ false → Within y (pos 0) k → ⊥
divisor_not_zero y k K t z a = inverted y (pos 0) k K t z a

one_times : (p : ℤ) → pos 1 *ℤ p ≡ p
unfolding one
one_times p = *ℤ_comm (pos 1) p ∙ *ℤ-one p

pub inverse_within : (y : Scalar) (q : ℤ) (k : ℕ) → 0 < k → Fits y → holds_zero y ≡ false → Within y q k
    → WithinRatio (inverse y) (pos 1) 1 q k
inverse_within y q k K t z a = go q (inverted y q k K t z a)
  where
    once : (p : ℤ) (n : ℕ) → Within (inverse y) p (suc n) → Within (inverse y) (pos 1 *ℤ p) (1 * suc n)
    once p n h = subst (Within (inverse y) (pos 1 *ℤ p)) (sym (one-mul (suc n)))
        (subst (λ (p : ℤ). Within (inverse y) p (suc n)) (sym (one_times p)) h)

    go : (q : ℤ) → InverseOf (inverse y) q k → WithinRatio (inverse y) (pos 1) 1 q k
    go (pos zero) h = tt
    go (pos (suc n)) h = once (pos k) n h.within
    go (negsuc n) h = once (neg_ℤ (pos k)) n h.within

times : (x r : Scalar) (p q : ℤ) (j k : ℕ) → 0 < j → Fits x → Fits r → Within x p j → InverseOf r q k
    → WithinRatio (mul_of x r) p j q k
times x r p q j k J t s a h = go q h
  where
    by : (w : ℤ) (n : ℕ) → Inverted r w (suc n) → Within (mul_of x r) (p *ℤ w) (j * suc n)
    by w n h = mul_within x r p w j (suc n) J (zero-lt-suc n) t s
        (record { left = λ u v. h.some_finite; right = λ u v. absurd (h.not_zero u v) }) a h.within

    go : (q : ℤ) → InverseOf r q k → WithinRatio (mul_of x r) p j q k
    go (pos zero) h = tt
    go (pos (suc n)) h = by (pos k) n h
    go (negsuc n) h = by (neg_ℤ (pos k)) n h

-- what is not refused
value : (x y r : Scalar) → div_of x y ≡ ok r → (holds_zero y ≡ false) × (mul_of x (inverse y) ≡ r)
unfolding div_of
value x y r e = go (holds_zero y) e
  where
    go : (b : Bool) → pick b (refused 6) (ok (mul_of x (inverse y))) ≡ ok r → (b ≡ false) × (mul_of x (inverse y) ≡ r)
    go true e = absurd (let w : ◌≡◌ {A = ℕ} 0 1 = cc in omega arith)
    go false e = (refl, cc)

pub div_within : (x y r : Scalar) (p q : ℤ) (j k : ℕ) → 0 < j → 0 < k → Fits x → Fits y → div_of x y ≡ ok r
    → Within x p j → Within y q k → WithinRatio r p j q k
div_within x y r p q j k J K tx ty e a b =
    let w = value x y r e in
    subst (λ (z : Scalar). WithinRatio z p j q k) w.1
    (times x (inverse y) p q j k J tx (inverse_fits y) a (inverted y q k K ty w.0 b))

pub quotient_fits : (x y r : Scalar) → div_of x y ≡ ok r → Fits r
quotient_fits x y r e = subst Fits (value x y r e).1 (outward_fits _ _)
