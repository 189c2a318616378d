-- The absolute value, end by end: by the ends' signs it is x, or -x, or [0, the greater of -lo and hi].
use Rattle.std.proofs.Common.{◌≡◌, ℕ, zero, suc, ◌*◌, ◌^◌, ◌<◌, Bool, true, false, T, ℤ, pos, negsuc, ◌*ℤ◌, neg_ℤ}
use Rattle.std.proofs.Common.{nat_abs, sym, refl, ap, subst, inl, inr, lt_of_lt_of_le, lt_irrefl, zero-lt-suc, mul-pos}
use Rattle.std.proofs.Common.{zero-mul, arith, pow_pos}
use lib.Signed.{le_z}
use lib.Ieee.{Float, inf, binary64, low, neg, lt, le, eq, fits}
use lib.Ieee.Scale.{finite}
use Rattle.interval.specs.declared.Scalar.{Scalar}
use Rattle.interval.specs.Enclosure.{units_of, Fits, Finite}
use Rattle.interval.specs.Float.{fmax, greater}
use Rattle.interval.specs.OneSided.{LowerBound, UpperBound, Within}
use Rattle.interval.specs.Scalar.{zero64, pick, abs_of, neg_of}
use Rattle.interval.proofs.MinMax.{fmax_number, either_max, abs_is}
use Rattle.interval.proofs.Order.{Number, greater_rank}
use Rattle.interval.proofs.Integers.{P, N, parts_of_le}
use Rattle.interval.proofs.OrderUnits.{le_units}
use Rattle.interval.proofs.Enclosure.Add.{scaled_le, le_scaled}
use Rattle.interval.proofs.Enclosure.Sqrt.{one_part, zero_units, zero-units-N}
use Rattle.interval.proofs.Infinite.{neg_finite}
use Rattle.interval.proofs.OneSided.Ends.{number, higher, zero_fits}
use Rattle.interval.proofs.OneSided.Neg.{neg_high, neg_within, neg_ends_fit}

pub zero_none : (P (units_of binary64 zero64) ≡ 0) × (N (units_of binary64 zero64) ≡ 0)
zero_none = (zero_units false (pos 0) zero_fits.0, zero-units-N false (pos 0) zero_fits.0)

-- ---- the sign of an end is that of its units
pub not_neg : (x : Float) → T (fits binary64 x) → T (finite x) → T (le zero64 x) → N (units_of binary64 x) ≡ 0
not_neg x t h k = elim (one_part (units_of binary64 x)) [
  | inl z ↦ let g =
      parts_of_le (units_of binary64 zero64) (units_of binary64 x) (le_units zero64 x zero_fits.0 tt t h k) in
      omega (arith, zero_none.1)
  | inr z ↦ z
]

pub not_pos : (x : Float) → T (fits binary64 x) → T (finite x) → T (le x zero64) → P (units_of binary64 x) ≡ 0
not_pos x t h k = elim (one_part (units_of binary64 x)) [
  | inr z ↦ let g =
      parts_of_le (units_of binary64 x) (units_of binary64 zero64) (le_units x zero64 t h zero_fits.0 tt k) in
      omega (arith, zero_none.0)
  | inl z ↦ z
]

pub stays : (u p : ℤ) (c l : ℕ) → 0 < l → N u ≡ 0 → T (le_z (u *ℤ pos c) (p *ℤ pos l)) → pos (nat_abs p) ≡ p
stays u (pos n) c l L z h = refl
stays u (negsuc n) c l L z h = absurd (lt_irrefl 0 (lt_of_lt_of_le (mul-pos (zero-lt-suc n) L)
    (omega (arith, scaled_le u (negsuc n) c l h, ap (λ (t : ℕ). t * c) z, zero-mul c, zero-mul l))))

pub turns : (u p : ℤ) (c l : ℕ) → 0 < l → P u ≡ 0 → T (le_z (p *ℤ pos l) (u *ℤ pos c)) → pos (nat_abs p) ≡ neg_ℤ p
turns u (negsuc n) c l L z h = refl
turns u (pos zero) c l L z h = refl
turns u (pos (suc n)) c l L z h = absurd (lt_irrefl 0 (lt_of_lt_of_le (mul-pos (zero-lt-suc n) L)
    (omega (arith, scaled_le (pos (suc n)) u l c h, ap (λ (t : ℕ). t * c) z, zero-mul c, zero-mul l))))

pub low_zero : (z : ℤ) (n c l : ℕ) → P z ≡ 0 → T (le_z (z *ℤ pos c) (pos n *ℤ pos l))
low_zero z n c l e = le_scaled z (pos n) c l (omega (arith, ap (λ (t : ℕ). t * c) e, zero-mul c, zero-mul l))

-- ---- the law
no_minus : (x : Float) → x ≡ inf true → T (le zero64 x) → ⊥
unfolding le lt eq
no_minus x e h = subst (λ (z : Float). T (le zero64 z)) e h

no_plus : (x : Float) → x ≡ inf false → T (le x zero64) → ⊥
unfolding le lt eq
no_plus x e h = subst (λ (z : Float). T (le z zero64)) e h

-- a choice above an end that is not below 0 is not below 0, and one below an end that is not above 0 is not above 0
kept : (x : Float) (p : ℤ) (c : ℕ) → T (fits binary64 x) → LowerBound x p c → T (le zero64 x) → pos (nat_abs p) ≡ p
kept x p c t (inl e) h = absurd (no_minus x e h)
kept x p c t (inr g) h =
    stays (units_of binary64 x) p c (2 ^ low binary64) (pow_pos (low binary64)) (not_neg x t g.0 h) g.1

turned : (x : Float) (p : ℤ) (c : ℕ) → T (fits binary64 x) → UpperBound x p c → T (le x zero64)
    → pos (nat_abs p) ≡ neg_ℤ p
turned x p c t (inl e) h = absurd (no_plus x e h)
turned x p c t (inr g) h =
    turns (units_of binary64 x) p c (2 ^ low binary64) (pow_pos (low binary64)) (not_pos x t g.0 h) g.1

pub abs_within : (x : Scalar) (p : ℤ) (c : ℕ) → Fits x → Within x p c → Within (abs_of x) (pos (nat_abs p)) c
abs_within x p c t a = subst (λ (r : Scalar). Within r (pos (nat_abs p)) c) (sym (abs_is x)) (go (le zero64 x.lo)
    (le x.hi zero64) (kept x.lo p c t.0 a.low_end) (turned x.hi p c t.1 a.high_end))
  where
    ln : Number (neg x.lo)
    ln = number (neg x.lo) (neg_ends_fit x t).1 (neg_high x.lo p c a.low_end)

    top : (p : ℤ) → Within x p c → UpperBound (greater (neg x.lo) x.hi) (pos (nat_abs p)) c
    top (pos n) b =
        let v = greater_rank (neg x.lo) x.hi ln (number x.hi t.1 b.high_end) in
        higher (greater (neg x.lo) x.hi) x.hi (pos n) c v.0 t.1 v.2 b.high_end
    top (negsuc n) b =
        let v = greater_rank (neg x.lo) x.hi ln (number x.hi t.1 b.high_end) in
        higher (greater (neg x.lo) x.hi) (neg x.lo) (pos (suc n)) c v.0 ln.0 v.1
        (neg_high x.lo (negsuc n) c b.low_end)

    go : (f g : Bool) → (T f → pos (nat_abs p) ≡ p) → (T g → pos (nat_abs p) ≡ neg_ℤ p) → Within
        (pick f x (pick g (neg_of x) (record { lo = zero64; hi = fmax (neg x.lo) x.hi }))) (pos (nat_abs p)) c
    go true g k m = subst (λ (z : ℤ). Within x z c) (sym (k tt)) a
    go false true k m = subst (λ (z : ℤ). Within (neg_of x) z c) (sym (m tt)) (neg_within x p c a)
    go false false k m = record {
      low_end = inr (tt, low_zero (units_of binary64 zero64) (nat_abs p) c (2 ^ low binary64) zero_none.0);
      high_end = subst (λ (z : Float). UpperBound z (pos (nat_abs p)) c)
          (sym (fmax_number (neg x.lo) x.hi ln.1)) (top p a);
    }

pub abs_fits : (x : Scalar) → Fits x → Fits (abs_of x)
abs_fits x t = subst Fits (sym (abs_is x)) (go (le zero64 x.lo) (le x.hi zero64))
  where
    go : (f g : Bool) → Fits (pick f x (pick g (neg_of x) (record { lo = zero64; hi = fmax (neg x.lo) x.hi })))
    go true g = t
    go false true = neg_ends_fit x t
    go false false =
        (zero_fits.0, either_max (neg x.lo) x.hi (λ z. T (fits binary64 z)) (neg_ends_fit x t).1 t.1)

pub abs_finite : (x : Scalar) → Finite x → Finite (abs_of x)
abs_finite x f = subst Finite (sym (abs_is x)) (go (le zero64 x.lo) (le x.hi zero64))
  where
    go : (b c : Bool) → Finite (pick b x (pick c (neg_of x) (record { lo = zero64; hi = fmax (neg x.lo) x.hi })))
    go true c = f
    go false true =
        record { lo_finite = neg_finite x.hi f.hi_finite; hi_finite = neg_finite x.lo f.lo_finite }
    go false false = record {
      lo_finite = tt;
      hi_finite =
          either_max (neg x.lo) x.hi (λ z. T (finite z)) (neg_finite x.lo f.lo_finite) f.hi_finite;
    }
