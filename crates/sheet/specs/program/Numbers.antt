-- What serves the reader's private functions: numbers with capped sizes. All above the cap is out of every range, so no
-- test tells a size from its cap.
use Rattle.std.specs.Prelude.{ℕ, ◌+◌, ◌-◌, ◌*◌, List, [], ◌∷◌, leb}
use Rattle.interval.specs.Result.{Res, ok, refused}
use Rattle.interval.specs.Scalar.{pick}
use Rattle.sheet.specs.Text.{Part, part}
use Rattle.sheet.specs.Numbers.{is_digit}
use Rattle.sheet.specs.declared.numbers.Number.{Number}

abbrev pub CAP : ℕ
CAP = 10000001

abbrev pub capped : ℕ → ℕ
capped v = pick (leb v CAP) v CAP

abbrev pub capped_number : Number → Number
capped_number x = record { negative = x.negative; size = capped x.size }

-- digits as they are read, with the cap at each
unfoldable pub capped_from : ℕ → List ℕ → Part ℕ
capped_from v [] = part v []
capped_from v (b ∷ text) = pick (is_digit b) (capped_from (capped (10 * v + (b - 48))) text) (part v (b ∷ text))

-- what is read, each number capped
abbrev pub capped_one : Res (Part Number) → Res (Part Number)
capped_one (ok p) = ok (part (capped_number p.value) p.rest)
capped_one (refused k) = refused k

abbrev pub capped_two : Res (Part (Number × Number)) → Res (Part (Number × Number))
capped_two (ok p) = ok (part (capped_number p.value.0, capped_number p.value.1) p.rest)
capped_two (refused k) = refused k

abbrev pub capped_three : Res (Part (Number × Number × Number)) → Res (Part (Number × Number × Number))
capped_three (ok p) =
    ok (part (capped_number p.value.0, capped_number p.value.1, capped_number p.value.2) p.rest)
capped_three (refused k) = refused k
