-- A word as text: 16 hexadecimal digits in upper case, the highest first.
use Rattle.std.specs.Prelude.{ℕ, zero, suc, ◌+◌, ◌/◌, ◌%◌, cond, List, [], ◌∷◌, ◌++◌, ltb}

-- in ASCII, 0 to 9 and then A to F
abbrev pub digit_of : ℕ → ℕ
digit_of d = cond (ltb d 10) (48 + d) (55 + d)

-- the last k digits
unfoldable pub digits_to : ℕ → ℕ → List ℕ
digits_to zero v = []
digits_to (suc k) v = digits_to k (v / 16) ++ (digit_of (v % 16) ∷ [])

abbrev pub word_of : ℕ → List ℕ
word_of v = digits_to 16 v
