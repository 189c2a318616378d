-- A number in decimal digits, without leading zeros. 20 digits hold every number of 64 bits. A whole number has a minus
-- sign where it is below 0, and no sign else: 0 has none (request (ii)).
use Rattle.std.specs.Prelude.{ℕ, zero, suc, ◌+◌, ◌/◌, ◌%◌, List, [], ◌∷◌, ◌++◌, ltb, ℤ, pos, negsuc}
use Rattle.interval.specs.Scalar.{pick}
use Rattle.sheet.specs.Numbers.{MINUS}

-- of at most k digits
unfoldable pub decimal_to : ℕ → ℕ → List ℕ
decimal_to zero v = []
decimal_to (suc k) v = pick (ltb v 10) ((48 + v) ∷ []) (decimal_to k (v / 10) ++ ((48 + v % 10) ∷ []))

abbrev pub DIGITS : ℕ
DIGITS = 20

abbrev pub decimal_of : ℕ → List ℕ
decimal_of v = decimal_to DIGITS v

-- `negsuc k` is -(k + 1)
abbrev pub whole_text : ℤ → List ℕ
whole_text (pos v) = decimal_of v
whole_text (negsuc k) = MINUS ∷ decimal_of (suc k)
