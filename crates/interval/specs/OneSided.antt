-- Enclosure (PROTOCOL, Scalars) of each end by itself, whatever the other end is: a finite lower end is a
-- lower bound, a finite upper end an upper bound.
-- An infinite end bounds nothing on its own side, and a NaN is no end.
use Rattle.std.specs.Prelude.{◌≡◌, ℕ, zero, suc, ◌*◌, ◌^◌, true, false, T, ◌⊎◌, ℤ, pos, negsuc, ◌*ℤ◌, neg_ℤ, int_le}
use Rattle.std.specs.Prelude.{Float}
use Rattle.std.specs.Float.{inf, binary64}
use Rattle.std.specs.Float.Ieee.{low}
use Rattle.std.specs.Float.Ieee.Scale.{finite}
use Rattle.interval.specs.declared.Scalar.{Scalar}
use Rattle.interval.specs.Enclosure.{units_of}

-- x is -inf, or finite with A of its units
abbrev pub LowerEnd : Float → (ℤ → Type 0) → Type 0
LowerEnd x A = (x ≡ inf true) ⊎ (T (finite x) × A (units_of binary64 x))

-- x is +inf, or finite with A of its units
abbrev pub UpperEnd : Float → (ℤ → Type 0) → Type 0
UpperEnd x A = (x ≡ inf false) ⊎ (T (finite x) × A (units_of binary64 x))

-- x is -inf, or finite and at most p / c
abbrev pub LowerBound : Float → ℤ → ℕ → Type 0
LowerBound x p c = LowerEnd x (λ (u : ℤ). T (int_le (u *ℤ pos c) (p *ℤ pos (2 ^ low binary64))))

-- x is +inf, or finite and at least p / c
abbrev pub UpperBound : Float → ℤ → ℕ → Type 0
UpperBound x p c = UpperEnd x (λ (u : ℤ). T (int_le (p *ℤ pos (2 ^ low binary64)) (u *ℤ pos c)))

-- p / c lies in x
pub record Within (x : Scalar) (p : ℤ) (c : ℕ) : Type 0 where
  pub low_end : LowerBound x.lo p c
  pub high_end : UpperBound x.hi p c

-- (p / j) / (q / k) lies in x, for a q that is not 0: it is p * k / (j * q), with the sign of q brought above
abbrev pub WithinRatio : Scalar → ℤ → ℕ → ℤ → ℕ → Type 0
WithinRatio x p j (pos zero) k = Unit
WithinRatio x p j (pos (suc n)) k = Within x (p *ℤ pos k) (j * suc n)
WithinRatio x p j (negsuc n) k = Within x (p *ℤ neg_ℤ (pos k)) (j * suc n)

-- x is -inf, or finite and at most the root of s / c: at most 0, or its square at most s / c
abbrev pub LowerRoot : Float → ℕ → ℕ → Type 0
LowerRoot x s c =
    LowerEnd x
    (λ (u : ℤ). T (int_le u (pos 0)) ⊎ T (int_le ((u *ℤ u) *ℤ pos c) (pos (s * (2 ^ low binary64 * 2 ^ low binary64)))))

-- x is +inf, or finite and at least the root of s / c: not below 0, and its square at least s / c
abbrev pub UpperRoot : Float → ℕ → ℕ → Type 0
UpperRoot x s c =
    UpperEnd x
    (λ (u : ℤ). T (int_le (pos 0) u) × T (int_le (pos (s * (2 ^ low binary64 * 2 ^ low binary64))) ((u *ℤ u) *ℤ pos c)))

-- the root of s / c lies in x
pub record WithinRoot (x : Scalar) (s c : ℕ) : Type 0 where
  pub low_end : LowerRoot x.lo s c
  pub high_end : UpperRoot x.hi s c
