-- An interval by two upper bounds: `below`, that of its numbers with their signs turned, and `above`. So below is -lo
-- and above is hi, and both are rounded up.
use Rattle.std.specs.Prelude.{ℕ, ◌≡◌, Bool, true, ◌&&◌, T}
use Rattle.std.specs.Float.{inf, binary64}
use Rattle.std.specs.Float.Ieee.{add, neg, lt}
use Rattle.interval.specs.declared.Scalar.{Scalar}
use Rattle.interval.specs.Scalar.{zero64, mul_of}
use Rattle.linear.specs.Lengths.{Inside, PlacesInside}
use Rattle.linear.specs.declared.bounds.Bounds.{Bounds}
use Rattle.linear.specs.declared.flat.Places.{Places}

abbrev pub bounds_of : Scalar → Bounds
bounds_of x = record { below = neg x.lo; above = x.hi }

abbrev pub scalar_of : Bounds → Scalar
scalar_of b = record { lo = neg b.below; hi = b.above }

-- both are numbers above minus infinity: a sum of such bounds is again a number
abbrev pub is_proper : Bounds → Bool
is_proper b = lt (inf true) b.below && lt (inf true) b.above

-- -0 made +0
abbrev pub unsigned : Bounds → Bounds
unsigned b = record { below = add binary64 b.below zero64; above = add binary64 b.above zero64 }

-- p is the bounds of a product, with -0 made +0
pub record OfProduct (p : Bounds) : Type 0 where
  pub first : Scalar
  pub second : Scalar
  pub value : p ≡ unsigned (bounds_of (mul_of first second))

-- r is the bounds of x, and proper
pub record Bounding (x : Scalar) (r : Bounds) : Type 0 where
  pub value : r ≡ bounds_of x
  pub proper : T (is_proper r)

-- k products of two runs can be added to z by bounds, with no test of a place: every place is inside, and z is proper
pub record Plain (i : Places) (a : ℕ) (j : Places) (b k : ℕ) (z : Bounds) : Type 0 where
  pub first : PlacesInside i k a
  pub second : PlacesInside j k b
  pub start : T (is_proper z)

-- the same of two sums, of two runs of one list with a row of another
pub record PlainTwo (i j : Places) (a b0 b k : ℕ) (y z : Bounds) : Type 0 where
  pub first : PlacesInside i k a
  pub second : PlacesInside j k a
  pub row : Inside b0 1 k b
  pub first_start : T (is_proper y)
  pub second_start : T (is_proper z)
