-- The float nearest to a square root, said by the floats beside it. A float r is nearest to the root of x where x lies
-- strictly between the squares of the midpoints of r and of the floats next below and next above it. So no tie arises.
-- In units of 2 ^ -1074, with d, u and v for the float below r, for r, and for the float above it:
-- (d + u) ^ 2 < 4 * (x * 2 ^ 1074) < (u + v) ^ 2.
use Rattle.std.specs.Prelude.{◌^◌, T, ◌⊎◌, ℤ, pos, ◌+ℤ◌, ◌*ℤ◌, int_le, int_lt, Float}
use Rattle.std.specs.Float.{binary64}
use Rattle.std.specs.Float.Ieee.{low, fits}
use Rattle.std.specs.Float.Ieee.Scale.{finite}
use Rattle.interval.specs.Enclosure.{units_of}
use Rattle.interval.specs.Step.{next_up, next_down}

abbrev pub square : ℤ → ℤ
square z = z *ℤ z

-- 4 times x, in units of units
abbrev pub fourfold : Float → ℤ
fourfold x = pos 4 *ℤ (units_of binary64 x *ℤ pos (2 ^ low binary64))

pub record NearestRoot (x r : Float) : Type 0 where
  pub finite_below : T (finite (next_down r))
  pub finite_root : T (finite r)
  pub finite_above : T (finite (next_up r))
  pub not_negative : T (int_le (pos 0) (units_of binary64 (next_down r)))
  pub past_lower : T (int_lt (square (units_of binary64 (next_down r) +ℤ units_of binary64 r)) (fourfold x))
  pub short_of_upper : T (int_lt (fourfold x) (square (units_of binary64 r +ℤ units_of binary64 (next_up r))))

-- ---- against every finite float: which side of the root a midpoint lies on is said by its square

-- half of m units is below the root of x
abbrev pub BelowRoot : ℤ → Float → Type 0
BelowRoot m x = T (int_lt m (pos 0)) ⊎ T (int_lt (square m) (fourfold x))

-- half of m units is above the root of x
abbrev pub AboveRoot : ℤ → Float → Type 0
AboveRoot m x = T (int_le (pos 0) m) × T (int_lt (fourfold x) (square m))

-- r is strictly nearer to the root of x than every finite float of another value: the midpoint of r and a lesser one is
-- below the root, that of r and a greater one above it
pub record NearestOfAll (x r : Float) : Type 0 where
  pub finite_root : T (finite r)
  pub past_lesser : (y : Float) → T (fits binary64 y) → T (finite y) →
      T (int_lt (units_of binary64 y) (units_of binary64 r)) → BelowRoot (units_of binary64 y +ℤ units_of binary64 r) x
  pub short_of_greater : (y : Float) → T (fits binary64 y) → T (finite y) →
      T (int_lt (units_of binary64 r) (units_of binary64 y)) → AboveRoot (units_of binary64 r +ℤ units_of binary64 y) x
