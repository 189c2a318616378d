-- A bit pattern of IEEE 754 below an infinity's, as a whole number of the format's smallest value.
use Rattle.std.specs.Prelude.{ℕ, zero, suc, ◌+◌, ◌*◌, ◌/◌, ◌%◌, ◌^◌}
use Rattle.std.specs.Float.{Format}
use Rattle.std.specs.Float.Ieee.{hid, ones}

-- the pattern of an infinity: a finite value's is below it
abbrev pub inf_bits : Format → ℕ
inf_bits f = ones f * hid f

-- the significand of an exponent's field and the digits t below the leading one, which a field of 0 lacks
abbrev pub significand : Format → ℕ → ℕ → ℕ
significand f zero t = t
significand f (suc x) t = hid f + t

-- how many places an exponent's field shifts it: a field of 0 counts as a field of 1
abbrev pub shift_of : ℕ → ℕ
shift_of zero = 0
shift_of (suc x) = x

abbrev pub fields_magnitude : Format → ℕ → ℕ → ℕ
fields_magnitude f x t = significand f x t * 2 ^ shift_of x

unfoldable pub magnitude : Format → ℕ → ℕ
magnitude f b = fields_magnitude f (b / hid f) (b % hid f)
