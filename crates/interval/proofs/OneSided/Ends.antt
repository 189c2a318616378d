-- Ends by themselves. A finite interval holds what lies within it; a bound stays one where the end moves outward by its
-- rank; a stepped number is finite or the infinity outward.
use Rattle.std.proofs.Common.{◌≡◌, ℕ, ◌+◌, ◌*◌, ◌^◌, ◌≤◌, Bool, true, false, not, T, ◌⊎◌, ℤ, pos, ◌*ℤ◌, sym, refl, ap}
use Rattle.std.proofs.Common.{◌∙◌, subst, inl, inr, le_of_eq, zero-mul, arith}
use lib.Signed.{le_z}
use lib.Ieee.{Float, nan, inf, fin, binary64, low, neg, fits, of_bits, is_nan}
use lib.Ieee.Fits.{neg-fits}
use lib.Ieee.Scale.{finite}
use Rattle.interval.specs.declared.Scalar.{Scalar}
use Rattle.interval.specs.Enclosure.{units_of, Fits, Finite, HoldsQ}
use Rattle.interval.specs.OneSided.{LowerBound, UpperBound, Within}
use Rattle.interval.specs.Pattern.{inf_bits}
use Rattle.interval.specs.Scalar.{zero64, zero_s, outward}
use Rattle.interval.specs.Step.{next_up, next_down}
use Rattle.interval.proofs.Integers.{P}
use Rattle.interval.proofs.Corners.{le_z-trans, mono}
use Rattle.interval.proofs.Rank.{rank, rank_in}
use Rattle.interval.proofs.Outward.{up_fits, down_fits}
use Rattle.interval.proofs.Order.{Number, rank_units, finite_number}
use Rattle.interval.proofs.Enclosure.Add.{le_scaled}
use Rattle.interval.proofs.Enclosure.Sqrt.{zero_rank}
use Rattle.interval.proofs.MinMax.{inf_number}
use Rattle.interval.proofs.Infinite.{neg_finite, neg_inf, under_zero, up_any}

-- ---- finite ends
pub says : {B : Type 0} {s : Bool} (x : Float) → T (finite x) → (x ≡ inf s) ⊎ (T (finite x) × B) → B
says x h (inl e) = absurd (subst (λ (z : Float). T (finite z)) e h)
says x h (inr g) = g.1

pub number : {B : Type 0} {s : Bool} (x : Float) → T (fits binary64 x) → (x ≡ inf s) ⊎ (T (finite x) × B) → Number x
number x t (inl e) = (t, subst (λ (z : Float). T (not (is_nan z))) (sym e) (inf_number _))
number x t (inr g) = finite_number x t g.0

pub holds_within : (x : Scalar) (p : ℤ) (c : ℕ) → Finite x → HoldsQ x p c → Within x p c
holds_within x p c f h = record { low_end = inr (f.lo_finite, h.from_lo); high_end = inr (f.hi_finite, h.to_hi) }

pub within_holds : (x : Scalar) (p : ℤ) (c : ℕ) → Finite x → Within x p c → HoldsQ x p c
within_holds x p c f h =
    record { from_lo = says x.lo f.lo_finite h.low_end; to_hi = says x.hi f.hi_finite h.high_end }

-- ---- [0, 0]
pub zero_fits : Fits zero_s
unfolding fits
zero_fits = (tt, tt)

pub zero_finite : Finite zero_s
zero_finite = record { lo_finite = tt; hi_finite = tt }

pub zero_within : (c : ℕ) → Within zero_s (pos 0) c
unfolding units_of
zero_within c = record {
  low_end = inr (tt, le_scaled (pos 0) (pos 0) c (2 ^ low binary64) (none c (2 ^ low binary64)));
  high_end = inr (tt, le_scaled (pos 0) (pos 0) (2 ^ low binary64) c (none (2 ^ low binary64) c));
}
  where
    none : (a b : ℕ) → 0 * a + 0 * b ≤ 0 * b + 0 * a
    none a b = omega (arith, zero-mul a, zero-mul b)

-- ---- a bound of p / c bounds what lies beyond it, and an end moved outward stays a bound
pub low_more : (x : Float) (p r : ℤ) (c : ℕ) → T (le_z p r) → LowerBound x p c → LowerBound x r c
low_more x p r c h (inl e) = inl e
low_more x p r c h (inr g) = inr (
  g.0,
  le_z-trans (units_of binary64 x *ℤ pos c) (p *ℤ pos (2 ^ low binary64)) (r *ℤ pos (2 ^ low binary64)) g.1
      (mono p r (2 ^ low binary64) h),
)

pub minus_rank : rank binary64 (inf true) ≡ 0
unfolding rank
minus_rank = refl

plus_rank : rank binary64 (inf false) ≡ inf_bits binary64 + inf_bits binary64
unfolding rank
plus_rank = refl

pub lower : (w v : Float) (p : ℤ) (c : ℕ) → Number w → T (fits binary64 v) → rank binary64 w ≤ rank binary64 v
    → LowerBound v p c → LowerBound w p c
unfolding is_nan
lower nan v p c g t k a = absurd g.1
lower (inf true) v p c g t k a = inl refl
lower (inf false) v p c g t k (inl e) = absurd (omega (arith, plus_rank, minus_rank, ap (rank binary64) e))
lower (inf false) v p c g t k (inr h) = absurd (omega (arith, plus_rank, rank_in binary64 v t h.0))
lower (fin s m e) v p c g t k (inl q) =
    absurd (omega (arith, rank_in binary64 (fin s m e) g.0 tt, minus_rank, ap (rank binary64) q))
lower (fin s m e) v p c g t k (inr h) =
    let w = fin s m e in
    let u = units_of binary64 in
    inr (
      tt,
      le_z-trans (u w *ℤ pos c) (u v *ℤ pos c) (p *ℤ pos (2 ^ low binary64))
          (mono (u w) (u v) c (rank_units w v g.0 tt t h.0 k)) h.1,
    )

pub higher : (w v : Float) (p : ℤ) (c : ℕ) → Number w → T (fits binary64 v) → rank binary64 v ≤ rank binary64 w
    → UpperBound v p c → UpperBound w p c
unfolding is_nan
higher nan v p c g t k a = absurd g.1
higher (inf false) v p c g t k a = inl refl
higher (inf true) v p c g t k (inl e) = absurd (omega (arith, plus_rank, minus_rank, ap (rank binary64) e))
higher (inf true) v p c g t k (inr h) = absurd (omega (arith, minus_rank, rank_in binary64 v t h.0))
higher (fin s m e) v p c g t k (inl q) =
    absurd (omega (arith, rank_in binary64 (fin s m e) g.0 tt, plus_rank, ap (rank binary64) q))
higher (fin s m e) v p c g t k (inr h) =
    let w = fin s m e in
    let u = units_of binary64 in
    inr (
      tt,
      le_z-trans (p *ℤ pos (2 ^ low binary64)) (u v *ℤ pos c) (u w *ℤ pos c) h.1
          (mono (u v) (u w) c (rank_units v w t h.0 g.0 tt k)),
    )

pub outward_fits : (l h : Float) → Fits (outward l h)
outward_fits l h = (down_fits l, up_fits h)

-- ---- a number stepped outward: what holds of it where it is finite
pub neg_number : (v : Float) → T (not (is_nan v)) → T (not (is_nan (neg v)))
unfolding neg is_nan
neg_number nan h = h
neg_number (inf s) h = tt
neg_number (fin s m e) h = tt

pub step_up : {B : Type 0} (v : Float) → Number v → (T (finite (next_up v)) → B)
    → (next_up v ≡ inf false) ⊎ (T (finite (next_up v)) × B)
step_up v g k = elim (up_any v g.0 g.1) [ inl h ↦ inr (h, k h) | inr e ↦ inl e ]

pub step_down : {B : Type 0} (v : Float) → Number v → (T (finite (next_down v)) → B)
    → (next_down v ≡ inf true) ⊎ (T (finite (next_down v)) × B)
step_down v g k = elim (up_any (neg v) (neg-fits binary64 v g.0) (neg_number v g.1)) [
  | inl h ↦ let d = neg_finite (next_up (neg v)) h in inr (d, k d)
  | inr e ↦ inl (ap neg e ∙ neg_inf)
]

pub stays_up : next_up (inf false) ≡ inf false
unfolding next_up
stays_up = refl

pub stays_down : next_down (inf true) ≡ inf true
unfolding next_up neg
stays_down = refl

-- 0 stepped down is a finite number that is not above 0
pub zero_down : T (finite (next_down zero64)) × (P (units_of binary64 (next_down zero64)) ≡ 0)
zero_down = (fine, under_zero zero64 zero_fits.0 fine (le_of_eq (zero_rank false (pos 0) zero_fits.0)))
  where
    fine : T (finite (next_down zero64))
    fine = unfold next_up in unfold neg in unfold of_bits in tt
