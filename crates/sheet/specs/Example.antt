-- The example of request (i), a sheet and what is printed of it, both in bytes with a line feed behind each line.
use Rattle.std.specs.Prelude.{ℕ, List, [], ◌∷◌, ◌≡◌}
use Rattle.sheet.specs.Settling.{print_of}

-- points=1, at=3,4, limit=0, reach=1, rules=0
abbrev pub TEXT : List ℕ
TEXT =
    112 ∷ 111 ∷ 105 ∷ 110 ∷ 116 ∷ 115 ∷ 61 ∷ 49 ∷ 10
    ∷ 97 ∷ 116 ∷ 61 ∷ 51 ∷ 44 ∷ 52 ∷ 10
    ∷ 108 ∷ 105 ∷ 109 ∷ 105 ∷ 116 ∷ 61 ∷ 48 ∷ 10
    ∷ 114 ∷ 101 ∷ 97 ∷ 99 ∷ 104 ∷ 61 ∷ 49 ∷ 10
    ∷ 114 ∷ 117 ∷ 108 ∷ 101 ∷ 115 ∷ 61 ∷ 48 ∷ 10 ∷ []

-- stop=budget, iterations=0, turned=0, at=4008000000000000,4010000000000000
abbrev pub PRINTED : List ℕ
PRINTED =
    115 ∷ 116 ∷ 111 ∷ 112 ∷ 61 ∷ 98 ∷ 117 ∷ 100 ∷ 103 ∷ 101 ∷ 116 ∷ 10
    ∷ 105 ∷ 116 ∷ 101 ∷ 114 ∷ 97 ∷ 116 ∷ 105 ∷ 111 ∷ 110 ∷ 115 ∷ 61 ∷ 48 ∷ 10
    ∷ 116 ∷ 117 ∷ 114 ∷ 110 ∷ 101 ∷ 100 ∷ 61 ∷ 48 ∷ 10
    ∷ 97 ∷ 116 ∷ 61 ∷ 52 ∷ 48 ∷ 48 ∷ 56 ∷ 48 ∷ 48 ∷ 48 ∷ 48 ∷ 48 ∷ 48 ∷ 48 ∷ 48 ∷ 48 ∷ 48 ∷ 48 ∷ 48 ∷ 44 ∷ 52
    ∷ 48 ∷ 49 ∷ 48 ∷ 48 ∷ 48 ∷ 48 ∷ 48 ∷ 48 ∷ 48 ∷ 48 ∷ 48 ∷ 48 ∷ 48 ∷ 48 ∷ 48 ∷ 10 ∷ []

abbrev pub Example : Type 0
Example = print_of TEXT ≡ PRINTED
