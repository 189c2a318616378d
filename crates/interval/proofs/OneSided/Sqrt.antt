-- The root, end by end: of a lower end -inf or below 0 it is 0, stepped down; of an upper end +inf it is +inf; of
-- others it is rounded once and stepped outward.
use Rattle.std.proofs.Common.{◌≡◌, ℕ, zero, suc, ◌+◌, ◌*◌, ◌/◌, ◌^◌, Bool, true, false, cond, not, T, ltb, pos, sym}
use Rattle.std.proofs.Common.{refl, ap, ◌∙◌, subst, inl, inr, arith}
use lib.Ieee.{Float, nan, inf, fin, binary64, low, up, down, lt, fits, is_nan}
use lib.Ieee.Fits.{nan-fits, inf-fits}
use lib.Ieee.Scale.{finite}
use Rattle.interval.specs.declared.Scalar.{Scalar}
use Rattle.interval.specs.Enclosure.{units_of, Fits}
use Rattle.interval.specs.OneSided.{LowerBound, UpperBound, LowerRoot, UpperRoot, Within, WithinRoot}
use Rattle.interval.specs.Result.{ok, refused}
use Rattle.interval.specs.Root.{nearest_root, rounded_root, isqrt}
use Rattle.interval.specs.Scalar.{zero64, pick, clamped, outward, sqrt_of}
use Rattle.interval.specs.Step.{next_up, next_down}
use Rattle.interval.proofs.Patterns.{bits_pos}
use Rattle.interval.proofs.Rank.{rank}
use Rattle.interval.proofs.Outward.{positive_fits}
use Rattle.interval.proofs.Order.{Number, nlt_rank}
use Rattle.interval.proofs.RootDigits.{near_fits}
use Rattle.interval.proofs.Product.{round_number}
use Rattle.interval.proofs.Enclosure.Sqrt.{zero_rank, neg_part, under_root, over_root}
use Rattle.interval.proofs.OneSided.Ends.{zero_fits, outward_fits, step_up, step_down, stays_up, zero_down}

-- ---- a root is a value of the format, and of a number that is not below 0 it is a number
pub root_fits : (x : Float) → T (fits binary64 x) → T (fits binary64 (nearest_root x))
unfolding nearest_root
root_fits nan t = nan-fits binary64
root_fits (inf false) t = inf-fits binary64 false
root_fits (inf true) t = nan-fits binary64
root_fits (fin s zero e) t = t
root_fits (fin true (suc m) e) t = nan-fits binary64
root_fits (fin false (suc m) e) t = near_fits binary64 (suc m * up e * 2 ^ low binary64 / down e * 2 ^ low binary64)

near_number : (n : ℕ) → T (not (is_nan (rounded_root binary64 n)))
unfolding rounded_root
near_number n = round_number binary64 false (2 * isqrt n + cond (ltb (isqrt n * isqrt n) n) 1 0) (2 * 2 ^ low binary64)

root_number : (x : Float) → T (fits binary64 x) → T (finite x) → T (not (lt x zero64))
    → T (not (is_nan (nearest_root x)))
unfolding nearest_root is_nan rank
root_number (fin s zero e) t f h = tt
root_number (fin false (suc m) e) t f h = near_number (suc m * up e * 2 ^ low binary64 / down e * 2 ^ low binary64)
root_number (fin true (suc m) e) t f h =
    absurd (omega (
      arith,
      bits_pos binary64 m e (positive_fits (suc m) e t),
      zero_rank false (pos 0) zero_fits.0,
      nlt_rank (fin true (suc m) e) zero64 t zero_fits.0 tt tt h,
    ))
root_number nan t f h = elim f [ ]
root_number (inf _) t f h = elim f [ ]

-- ---- the lower end
minus_root : nearest_root (clamped (inf true)) ≡ zero64
unfolding clamped lt nearest_root
minus_root = refl

zero_number : Number (nearest_root zero64)
unfolding nearest_root is_nan
zero_number = (zero_fits.0, tt)

low_number : (x : Float) → T (fits binary64 x) → T (finite x) → Number (nearest_root (clamped x))
unfolding clamped
low_number x t f = go (lt x zero64) (root_number x t f)
  where
    go : (b : Bool) → (T (not b) → T (not (is_nan (nearest_root x)))) → Number (nearest_root (cond b zero64 x))
    go true k = zero_number
    go false k = (root_fits x t, k tt)

pub root_low : (x : Float) (s c : ℕ) → T (fits binary64 x) → LowerBound x (pos s) c
    → LowerRoot (next_down (nearest_root (clamped x))) s c
root_low x s c t (inl e) =
    subst (λ (v : Float). LowerRoot (next_down v) s c)
    (sym (ap (λ (z : Float). nearest_root (clamped z)) e ∙ minus_root))
    (inr (zero_down.0, inl (neg_part (units_of binary64 (next_down zero64)) zero_down.1)))
root_low x s c t (inr g) =
    step_down (nearest_root (clamped x)) (low_number x t g.0) (λ h. under_root x s c t g.0 h g.1)

-- ---- the upper end
plus_root : nearest_root (inf false) ≡ inf false
unfolding nearest_root
plus_root = refl

pub root_high : (x : Float) (s c : ℕ) → T (fits binary64 x) → T (not (lt x zero64)) → UpperBound x (pos s) c
    → UpperRoot (next_up (nearest_root x)) s c
root_high x s c t n (inl e) = inl (ap next_up (ap nearest_root e ∙ plus_root) ∙ stays_up)
root_high x s c t n (inr g) =
    step_up (nearest_root x) (root_fits x t, root_number x t g.0 n) (λ h. over_root x s c t g.0 h g.1)

-- what is not refused
value : (x r : Scalar) → sqrt_of x ≡ ok r
    → T (not (lt x.hi zero64)) × (outward (nearest_root (clamped x.lo)) (nearest_root x.hi) ≡ r)
unfolding sqrt_of
value x r e = go (lt x.hi zero64) e
  where
    go : (b : Bool) → pick b (refused 5) (ok (outward (nearest_root (clamped x.lo)) (nearest_root x.hi))) ≡ ok r
        → T (not b) × (outward (nearest_root (clamped x.lo)) (nearest_root x.hi) ≡ r)
    go true e = absurd (let w : ◌≡◌ {A = ℕ} 0 1 = cc in omega arith)
    go false e = (tt, cc)

pub sqrt_within : (x r : Scalar) (s c : ℕ) → Fits x → sqrt_of x ≡ ok r → Within x (pos s) c → WithinRoot r s c
sqrt_within x r s c t e a =
    let w = value x r e in
    subst (λ (z : Scalar). WithinRoot z s c) w.1 (record {
      low_end = root_low x.lo s c t.0 a.low_end;
      high_end = root_high x.hi s c t.1 w.0 a.high_end;
    })

pub sqrt_fits : (x r : Scalar) → sqrt_of x ≡ ok r → Fits r
sqrt_fits x r e = subst Fits (value x r e).1 (outward_fits _ _)
