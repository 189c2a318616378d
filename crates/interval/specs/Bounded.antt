-- Bounds on the magnitude of the ends of an interval, as powers of two in units of 2 ^ -1074, so that 2 ^ 400 is
-- 2 ^ 1474 units.
use Rattle.std.specs.Prelude.{◌≡◌, ℕ, ◌^◌, Bool, true, false, T, ℤ, pos, neg_ℤ, int_le, nat_le, unsigned_abs, Float}
use Rattle.std.specs.Float.{binary64}
use Rattle.std.specs.Float.Ieee.{fits}
use Rattle.std.specs.Float.Ieee.Scale.{finite}
use Rattle.interval.specs.declared.Scalar.{Scalar}
use Rattle.interval.specs.Enclosure.{units_of}
use Rattle.interval.specs.Result.{Res, ok}

-- a finite float of magnitude at most 2 ^ k units
pub record Small (v : Float) (k : ℕ) : Type 0 where
  pub is_float : T (fits binary64 v)
  pub is-finite : T (finite v)
  pub at_most : T (nat_le (unsigned_abs (units_of binary64 v)) (2 ^ k))

-- both ends are finite and of magnitude at most 2 ^ k units
pub record Bounded (x : Scalar) (k : ℕ) : Type 0 where
  pub lo_small : Small x.lo k
  pub hi_small : Small x.hi k

-- z, or -z where s holds
abbrev pub turned : Bool → ℤ → ℤ
turned false z = z
turned true z = neg_ℤ z

-- a finite float of magnitude at least 2 ^ k units, negative where s holds
pub record Far (s : Bool) (v : Float) (k : ℕ) : Type 0 where
  pub is_float : T (fits binary64 v)
  pub is-finite : T (finite v)
  pub at_least : T (int_le (pos (2 ^ k)) (turned s (units_of binary64 v)))

-- both ends are finite, on one side of zero, and of magnitude at least 2 ^ k units
pub record Away (y : Scalar) (k : ℕ) : Type 0 where
  pub side : Bool
  pub lo_far : Far side y.lo k
  pub hi_far : Far side y.hi k

-- a result that is no refusal, and bounded
pub record BoundedResult (v : Res Scalar) (k : ℕ) : Type 0 where
  pub result : Scalar
  pub given : v ≡ ok result
  pub bounded : Bounded result k
