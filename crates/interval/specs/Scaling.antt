-- Four times a scalar, and a third of it, sharpened: what a run does to its damping (PROTOCOL, An iteration: mu = 4 mu
-- sharpened,
-- mu / 3 sharpened).
use Rattle.std.specs.Prelude.{ℕ, zero, suc, Bool, false, ◌&&◌, pos, Float}
use Rattle.std.specs.Float.{fin}
use Rattle.std.specs.Float.Ieee.{lt, le}
use Rattle.std.specs.Float.Ieee.Scale.{finite}
use Rattle.interval.specs.declared.Scalar.{Scalar}
use Rattle.interval.specs.Scalar.{zero64, degenerate, mul_of, inverse, middle, sharpen}

abbrev pub four64 : Float
four64 = fin false 1 (pos 2)

abbrev pub three64 : Float
three64 = fin false 3 (pos 0)

abbrev pub quadrupled : Scalar → Scalar
quadrupled x = sharpen (mul_of x (degenerate four64))

-- both ends of what a sharp scalar becomes
abbrev pub quadruple : Float → Float
quadruple x = middle (mul_of (degenerate x) (degenerate four64))

-- the divisor [3, 3] holds no 0, so the division is not refused
abbrev pub third : Scalar → Scalar
third x = sharpen (mul_of x (inverse (degenerate three64)))

-- t times in a row
unfoldable pub quadrupled_times : Scalar → ℕ → Scalar
quadrupled_times x zero = x
quadrupled_times x (suc t) = quadrupled (quadrupled_times x t)

unfoldable pub quadruple_times : Float → ℕ → Float
quadruple_times x zero = x
quadruple_times x (suc t) = quadruple (quadruple_times x t)

-- finite with 0 < lo ≤ hi
abbrev pub is_positive : Scalar → Bool
is_positive x = finite x.lo && finite x.hi && lt zero64 x.lo && le x.lo x.hi
