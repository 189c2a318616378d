-- How text writes numbers: by hexadecimal digits in upper case.
use Rattle.std.specs.Prelude.{ℕ, ◌+◌, ◌-◌, ◌*◌, ◌%◌, cond, leb, ltb}

-- the value of the digit with the code b, 16 where b is none: 48 is the code of 0, 57 of 9, 65 of A, 70 of F
abbrev pub digit_of : ℕ → ℕ
digit_of b = cond (ltb b 48) 16 (cond (leb b 57) (b - 48) (cond (ltb b 65) 16 (cond (leb b 70) (b - 55) 16)))

-- The number n with one digit more, the byte b. What is above 2 ^ 60 goes first, so that the last sixteen digits
-- count. A byte that is no digit counts as 0
abbrev pub with_digit : ℕ → ℕ → ℕ
with_digit n b = n % 1152921504606846976 * 16 + digit_of b % 16
