-- Every limit (PROTOCOL, Limits), once; the code has the same names.
use Rattle.std.specs.Prelude.{ℕ, Float}
use Rattle.std.specs.Float.{binary64}
use Rattle.std.specs.Float.Ieee.{of_bits}

-- the most variables, constraint rows and sum rows of an answer, and the most iterations of a run
abbrev pub VARIABLES : ℕ
VARIABLES = 12

abbrev pub CONSTRAINTS : ℕ
CONSTRAINTS = 12

abbrev pub sum_rows : ℕ
sum_rows = 24

abbrev pub ITERATIONS : ℕ
ITERATIONS = 200

-- at most 1,100 turn-downs for each iteration and one more, and 5,500 questions for each of the limit
abbrev pub turn_downs : ℕ
turn_downs = 1100

abbrev pub QUESTIONS : ℕ
QUESTIONS = 5500

-- the most corrections of a trial
abbrev pub CORRECTIONS : ℕ
CORRECTIONS = 4

-- the most dampings of an iteration: 4 mu stays finite at most 1,048 times
abbrev pub DAMPINGS : ℕ
DAMPINGS = 1100

-- how many numbers the work area has
abbrev pub AREA : ℕ
AREA = 8000

-- the bits of 2^400, and the greatest magnitude of an end itself
abbrev pub domain_bits : ℕ
domain_bits = 0x58F0000000000000

abbrev pub MOST : Float
MOST = of_bits binary64 domain_bits
