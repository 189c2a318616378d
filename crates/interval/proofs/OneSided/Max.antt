-- The greater of two, end by end: the greater lower end is one of the two and so at most the greater choice; the
-- greater upper end has at least the rank of each. Joining the ends only moves them outward.
use Rattle.std.proofs.Common.{◌≡◌, ℕ, ◌+◌, Bool, true, false, cond, not, T, ◌⊎◌, ℤ, sym, refl, subst, inl, inr}
use Rattle.std.proofs.Common.{le_trans, le_of_lt, arith}
use lib.Signed.{le_z}
use lib.Ieee.{Float, binary64, fits}
use Rattle.interval.specs.declared.Scalar.{Scalar}
use Rattle.interval.specs.Enclosure.{Fits, maxℤ}
use Rattle.interval.specs.Float.{greater, fmin, fmax}
use Rattle.interval.specs.OneSided.{LowerBound, UpperBound, Within}
use Rattle.interval.specs.Scalar.{max_of}
use Rattle.interval.proofs.Order.{Number, greater_rank, joined}
use Rattle.interval.proofs.Integers.{P, N, le_of_parts}
use Rattle.interval.proofs.Rank.{le_or_lt}
use Rattle.interval.proofs.MinMax.{either, either_min, either_max}
use Rattle.interval.proofs.OneSided.Ends.{number, low_more, lower, higher}

-- ---- the greater of two whole numbers
pub le_z-other : (p q : ℤ) → T (not (le_z p q)) → T (le_z q p)
le_z-other p q n = elim (le_or_lt (P p + N q)
    (P q + N p)) [ inl k ↦ absurd (both (le_z p q) (le_of_parts p q k) n) | inr k ↦ le_of_parts q p (le_of_lt k) ]
  where
    both : (b : Bool) → T b → T (not b) → ⊥
    both true y n = n
    both false y n = y

pub le_z-refl : (p : ℤ) → T (le_z p p)
le_z-refl p = le_of_parts p p (omega arith)

pub max_is : (p q : ℤ) → T (le_z p (maxℤ p q)) × T (le_z q (maxℤ p q)) × ((maxℤ p q ≡ p) ⊎ (maxℤ p q ≡ q))
max_is p q = go (le_z p q) refl
  where
    go : (t : Bool) → le_z p q ≡ t
        → T (le_z p (cond t q p)) × T (le_z q (cond t q p)) × ((cond t q p ≡ p) ⊎ (cond t q p ≡ q))
    go true e = (subst T (sym e) tt, le_z-refl q, inr refl)
    go false e = (le_z-refl p, le_z-other p q (subst (λ (z : Bool). T (not z)) (sym e) tt), inl refl)

-- ---- the law
pub max_within : (x y : Scalar) (p q : ℤ) (c : ℕ) → Fits x → Fits y → Within x p c → Within y q c
    → Within (max_of x y) (maxℤ p q) c
max_within x y p q c tx ty a b =
    let l = greater x.lo y.lo in
    let h = greater x.hi y.hi in
    let r = maxℤ p q in
    let w = max_is p q in
    let nl : Number l =
    either x.lo y.lo Number (number x.lo tx.0 a.low_end) (number y.lo ty.0 b.low_end) in
    let v =
    greater_rank x.hi y.hi (number x.hi tx.1 a.high_end) (number y.hi ty.1 b.high_end) in
    let j = joined l h nl v.0 in
    let ng : Number (fmax l h) = either_max l h Number nl v.0 in
    record {
      low_end = lower (fmin l h) l r c (either_min l h Number nl v.0) nl.0 j.0 (either x.lo y.lo (λ z.
          LowerBound z r c) (low_more x.lo p r c w.0 a.low_end) (low_more y.lo q r c w.1 b.low_end));
      high_end = elim w.2 [
        | inl e ↦ subst (λ (z : ℤ). UpperBound (fmax l h) z c) (sym e)
            (higher (fmax l h) x.hi p c ng tx.1 (le_trans v.1 j.1) a.high_end)
        | inr e ↦ subst (λ (z : ℤ). UpperBound (fmax l h) z c) (sym e)
            (higher (fmax l h) y.hi q c ng ty.1 (le_trans v.2 j.1) b.high_end)
      ];
    }

pub max_fits : (x y : Scalar) → Fits x → Fits y → Fits (max_of x y)
max_fits x y tx ty =
    let F : Float → Type 0 = λ z. T (fits binary64 z) in
    let l = either x.lo y.lo F tx.0 ty.0 in
    let h = either x.hi y.hi F tx.1 ty.1 in
    (either_min _ _ F l h, either_max _ _ F l h)
