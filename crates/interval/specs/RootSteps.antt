-- What the steps of `root_bits` ask and promise: a number of units, times 2 ^ 52, as c * 2 ^ e, and the root of c.
use Rattle.std.specs.Prelude.{◌≡◌, ℕ, ◌+◌, ◌*◌, ◌%◌, ◌^◌, ◌<◌, ◌≤◌}

-- c * 2 ^ e is the n units of a float that is not zero, times 2 ^ 52
pub record Decomposed (n c e : ℕ) : Type 0 where
  pub same : c * 2 ^ e ≡ n * 2 ^ 52
  pub some : 0 < c
  pub reach : e ≤ 2097

-- c can be brought to 53 digits
pub record Normalizable (c e : ℕ) : Type 0 where
  pub some : 0 < c
  pub small : c < 2 ^ 53
  pub enough : 2 ^ 52 ≤ c * 2 ^ e

-- c' * 2 ^ e' is the same number, with 53 digits in c'
pub record Normalized (c e c' e' : ℕ) : Type 0 where
  pub same : c' * 2 ^ e' ≡ c * 2 ^ e
  pub from : 2 ^ 52 ≤ c'
  pub small : c' < 2 ^ 53
  pub reach : e' ≤ e

-- c' * 2 ^ e' is the same number, with an even e'
pub record EvenExponent (c e c' e' : ℕ) : Type 0 where
  pub same : c' * 2 ^ e' ≡ c * 2 ^ e
  pub from : c ≤ c'
  pub small : c' ≤ 2 * c
  pub even : e' % 2 ≡ 0
  pub reach : e' ≤ e

-- c has 53 or 54 digits
pub record Significand (c : ℕ) : Type 0 where
  pub from : 2 ^ 52 ≤ c
  pub small : c < 2 ^ 54

-- s is a root of 27 digits, and r is what its square leaves
pub record Extendable (s r : ℕ) : Type 0 where
  pub from : 2 ^ 26 ≤ s
  pub small : s < 2 ^ 27
  pub rest : r ≤ 2 * s

-- q is the root of n, and r is what its square leaves
pub record Extended (n q r : ℕ) : Type 0 where
  pub same : q * q + r ≡ n
  pub rest : r ≤ 2 * q
