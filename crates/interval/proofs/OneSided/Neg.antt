-- Negation exchanges the ends and the signs, also of infinite ends.
use Rattle.std.proofs.Common.{ℕ, false, ℤ, neg_ℤ, sym, ap, ◌∙◌, subst, inl, inr}
use lib.IntN.{neg_ℤ-neg_ℤ}
use lib.Ieee.{Float, inf, binary64, neg}
use lib.Ieee.Fits.{neg-fits}
use Rattle.interval.specs.declared.Scalar.{Scalar}
use Rattle.interval.specs.Enclosure.{Fits}
use Rattle.interval.specs.OneSided.{LowerBound, UpperBound, Within}
use Rattle.interval.specs.Scalar.{neg_of}
use Rattle.interval.proofs.Enclosure.Neg.{neg_under, neg_over}
use Rattle.interval.proofs.Infinite.{neg_finite, neg_neg, neg_inf}

pub neg_low : (x : Float) (p : ℤ) (c : ℕ) → UpperBound x p c → LowerBound (neg x) (neg_ℤ p) c
neg_low x p c (inl e) = inl (ap neg e ∙ neg_inf)
neg_low x p c (inr h) = inr (neg_finite x h.0, neg_under x p c h.1)

pub neg_high : (x : Float) (p : ℤ) (c : ℕ) → LowerBound x p c → UpperBound (neg x) (neg_ℤ p) c
neg_high x p c (inl e) = inl (ap neg (e ∙ sym neg_inf) ∙ neg_neg (inf false))
neg_high x p c (inr h) = inr (neg_finite x h.0, neg_over x p c h.1)

pub neg_ends_fit : (x : Scalar) → Fits x → Fits (neg_of x)
neg_ends_fit x t = (neg-fits binary64 x.hi t.1, neg-fits binary64 x.lo t.0)

pub neg_within : (x : Scalar) (p : ℤ) (c : ℕ) → Within x p c → Within (neg_of x) (neg_ℤ p) c
neg_within x p c h =
    record { low_end = neg_low x.hi p c h.high_end; high_end = neg_high x.lo p c h.low_end }

-- ---- back again
pub un_low : (x : Float) (p : ℤ) (c : ℕ) → UpperBound (neg x) (neg_ℤ p) c → LowerBound x p c
un_low x p c h = subst (λ (z : Float). LowerBound z p c) (neg_neg x)
    (subst (λ (q : ℤ). LowerBound (neg (neg x)) q c) (neg_ℤ-neg_ℤ p) (neg_low (neg x) (neg_ℤ p) c h))

pub un_high : (x : Float) (p : ℤ) (c : ℕ) → LowerBound (neg x) (neg_ℤ p) c → UpperBound x p c
un_high x p c h = subst (λ (z : Float). UpperBound z p c) (neg_neg x)
    (subst (λ (q : ℤ). UpperBound (neg (neg x)) q c) (neg_ℤ-neg_ℤ p) (neg_high (neg x) (neg_ℤ p) c h))

pub un_within : (x : Scalar) (p : ℤ) (c : ℕ) → Within (neg_of x) (neg_ℤ p) c → Within x p c
un_within x p c h = record { low_end = un_low x.lo p c h.high_end; high_end = un_high x.hi p c h.low_end }
