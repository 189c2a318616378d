-- The numbers of a sheet (request (i)): an optional sign and digits, leading zeros allowed, of any length, so the sizes
-- here have no bound. One, two or three of them, apart by commas, end a line.
use Rattle.std.specs.Prelude.{ℕ, ◌+◌, ◌-◌, ◌*◌, Bool, true, false, ◌&&◌, ◌||◌, not, List, [], ◌∷◌, eqb, leb, ℤ, pos, neg_ℤ, drop}
use Rattle.interval.specs.Result.{Res, ok}
use Rattle.interval.specs.Scalar.{pick}
use Rattle.linear.specs.Replies.{checked_value}
use Rattle.linear.specs.Results.{bind}
use Rattle.sheet.specs.Text.{Part, part, MALFORMED, head, behind}
use Rattle.sheet.specs.declared.numbers.Number.{Number}

abbrev pub PLUS : ℕ
PLUS = 43

abbrev pub MINUS : ℕ
MINUS = 45

abbrev pub COMMA : ℕ
COMMA = 44

abbrev pub line_feed : ℕ
line_feed = 10

-- the digits 0 to 9 are the bytes 48 to 57
abbrev pub is_digit : ℕ → Bool
is_digit b = leb 48 b && leb b 57

-- the digits in front, behind others that have the value v
unfoldable pub digits_from : ℕ → List ℕ → Part ℕ
digits_from v [] = part v []
digits_from v (b ∷ text) = pick (is_digit b) (digits_from (10 * v + (b - 48)) text) (part v (b ∷ text))

-- at least one digit, behind a sign or none
unfoldable pub unsigned_of : Bool → List ℕ → Res (Part Number)
unsigned_of negative text =
    let digits = digits_from 0 text in
    checked_value (is_digit (head text)) MALFORMED
    (ok (part (record { negative = negative; size = digits.value }) digits.rest))

unfoldable pub number_of : List ℕ → Res (Part Number)
number_of text =
    pick (eqb (head text) MINUS) (unsigned_of true (drop 1 text))
    (pick (eqb (head text) PLUS) (unsigned_of false (drop 1 text)) (unsigned_of false text))

-- the whole number that is written: -0 is 0
abbrev pub whole_of : Number → ℤ
whole_of x = pick x.negative (neg_ℤ (pos x.size)) (pos x.size)

-- not below 0
abbrev pub is_natural : Number → Bool
is_natural x = not x.negative || eqb x.size 0

abbrev pub is_between : ℕ → ℕ → Number → Bool
is_between least most x = is_natural x && leb least x.size && leb x.size most

-- ---- the fields of a line

-- a number and the byte that ends it
unfoldable pub field_of : ℕ → List ℕ → Res (Part Number)
field_of end text = bind (number_of text) (λ x. bind (behind end x.rest) (λ rest. ok (part x.value rest)))

unfoldable pub one_of : List ℕ → Res (Part Number)
one_of text = field_of line_feed text

unfoldable pub two_of : List ℕ → Res (Part (Number × Number))
two_of text =
    bind (field_of COMMA text)
    (λ x. bind (one_of x.rest) (λ y. ok (part (x.value, y.value) y.rest)))

unfoldable pub three_of : List ℕ → Res (Part (Number × Number × Number))
three_of text =
    bind (field_of COMMA text)
    (λ x. bind (two_of x.rest) (λ y. ok (part (x.value, y.value.0, y.value.1) y.rest)))
