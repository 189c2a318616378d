-- The float nearest to a square root (IEEE 754's squareRoot, Rust's f64::sqrt). A float is a number of units, 2 ^ -1074
-- each; the root of n units is the root of n * 2 ^ 1074 in units. Its whole part s is found exactly. Every float of
-- that size, and every midpoint of two, is a whole number of units: so rounding s, or s + 1/2 where s is not the whole
-- root, rounds the root itself. The theorem `NearestRoot` says so without reference to s.
use Rattle.std.specs.Prelude.{ℕ, zero, suc, ◌+◌, ◌*◌, ◌/◌, ◌^◌, ◌<◌, ◌≤◌, true, false, cond, nat_le, nat_lt, Float}
use Rattle.std.specs.Float.{nan, inf, fin, Format, binary64}
use Rattle.std.specs.Float.Ieee.{low, up, down, size, round}

-- r is the whole part of the root of n
abbrev pub IsRoot : ℕ → ℕ → Type 0
IsRoot n r = (r * r ≤ n) × (n < (r + 1) * (r + 1))

-- one binary digit more of the root: r or r + 1
abbrev pub next_digit : ℕ → ℕ → ℕ
next_digit n r = cond (nat_le ((r + 1) * (r + 1)) n) (r + 1) r

-- the whole part of the root of an n below 4 ^ k, digit by digit
unfoldable pub root_digits : ℕ → ℕ → ℕ
root_digits zero n = 0
root_digits (suc k) n = next_digit n (2 * root_digits k (n / 4))

unfoldable pub isqrt : ℕ → ℕ
unfolding size root_digits
isqrt n = root_digits (size n) n

-- the float nearest to the root of n, in units
unfoldable pub rounded_root : Format → ℕ → Float
unfolding isqrt round
rounded_root f n = let s = isqrt n in round f false (2 * s + cond (nat_lt (s * s) n) 1 0) (2 * 2 ^ low f)

-- the root of a zero is that zero, of a negative number NaN
unfoldable pub nearest_root : Float → Float
unfolding rounded_root
nearest_root nan = nan
nearest_root (inf false) = inf false
nearest_root (inf true) = nan
nearest_root (fin s zero e) = fin s zero e
nearest_root (fin true (suc m) e) = nan
nearest_root (fin false (suc m) e) = rounded_root binary64 (suc m * up e * 2 ^ low binary64 / down e * 2 ^ low binary64)
