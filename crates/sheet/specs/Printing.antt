-- What is printed of a sheet (request (i)): the stop's name, two counts and the midpoints' bits of each point, or the
-- one line error= and its number. Lines end in a line feed; in a slot of 320 bytes zeros follow.
use Rattle.std.specs.Prelude.{ℕ, zero, suc, ◌+◌, ◌*◌, ◌/◌, List, [], ◌∷◌, ◌++◌, Float, length}
use Rattle.std.specs.Float.{binary64}
use Rattle.std.specs.Float.Ieee.{to_bits}
use Rattle.float_bits.specs.Word.{word_of}
use Rattle.interval.specs.Scalar.{sharpen}
use Rattle.interval.specs.declared.Scalar.{Scalar}
use Rattle.linear.specs.Flat.{at}
use Rattle.run.specs.declared.state.Stop.{Stop}
use Rattle.run.specs.declared.state.Stop.TheVariants as stop
use Rattle.sheet.specs.Decimal.{decimal_of}
use Rattle.sheet.specs.Lines.{line_of, padded_to}
use Rattle.sheet.specs.Numbers.{COMMA}
use Rattle.sheet.specs.Sheet.{at_key}

-- ---- words, in ASCII

-- stop=
abbrev pub stop_key : List ℕ
stop_key = 115 ∷ 116 ∷ 111 ∷ 112 ∷ 61 ∷ []

-- iterations=
abbrev pub iterations_key : List ℕ
iterations_key = 105 ∷ 116 ∷ 101 ∷ 114 ∷ 97 ∷ 116 ∷ 105 ∷ 111 ∷ 110 ∷ 115 ∷ 61 ∷ []

-- turned=
abbrev pub turned_key : List ℕ
turned_key = 116 ∷ 117 ∷ 114 ∷ 110 ∷ 101 ∷ 100 ∷ 61 ∷ []

-- error=
abbrev pub error_key : List ℕ
error_key = 101 ∷ 114 ∷ 114 ∷ 111 ∷ 114 ∷ 61 ∷ []

-- infeasible, nochange, undecided, flat, damped, budget
abbrev pub name_of : Stop → List ℕ
name_of stop.Infeasible = 105 ∷ 110 ∷ 102 ∷ 101 ∷ 97 ∷ 115 ∷ 105 ∷ 98 ∷ 108 ∷ 101 ∷ []
name_of (stop.NoChange r) = 110 ∷ 111 ∷ 99 ∷ 104 ∷ 97 ∷ 110 ∷ 103 ∷ 101 ∷ []
name_of stop.Undecided = 117 ∷ 110 ∷ 100 ∷ 101 ∷ 99 ∷ 105 ∷ 100 ∷ 101 ∷ 100 ∷ []
name_of (stop.Flat independent constraints) = 102 ∷ 108 ∷ 97 ∷ 116 ∷ []
name_of (stop.Damped r) = 100 ∷ 97 ∷ 109 ∷ 112 ∷ 101 ∷ 100 ∷ []
name_of stop.Budget = 98 ∷ 117 ∷ 100 ∷ 103 ∷ 101 ∷ 116 ∷ []

-- ---- lines

-- the bits of the midpoint
abbrev pub middle_of : Scalar → List ℕ
middle_of x = word_of (to_bits binary64 (sharpen x).lo)

abbrev pub point_line : Scalar → Scalar → List ℕ
point_line x y = line_of at_key (middle_of x ++ (COMMA ∷ middle_of y))

-- a line for each of the first k points
unfoldable pub point_lines : List Float → ℕ → List ℕ
point_lines p zero = []
point_lines p (suc k) = point_lines p k ++ point_line (at p (2 * k)) (at p (2 * k + 1))

-- how a run ended, and the point that it left
abbrev pub error_of : ℕ → List ℕ
error_of k = line_of error_key (decimal_of k)

abbrev pub finish_of : Stop → ℕ → ℕ → List Float → List ℕ
finish_of s iterations turned p =
    line_of stop_key (name_of s)
    ++ (line_of iterations_key (decimal_of iterations)
    ++ (line_of turned_key (decimal_of turned) ++ point_lines p (length p / 4)))

-- ---- a slot

abbrev pub SLOT : ℕ
SLOT = 320

abbrev pub padded : List ℕ → List ℕ
padded text = padded_to SLOT text
