-- A sheet and how it is read (request (i)): its lines in their order, the first at fault by the number of its first
-- fault: 7 its form, 8 a number out of its range, 9 a rule with equal points or one not present.
use Rattle.std.specs.Prelude.{ℕ, zero, suc, ◌/◌, Bool, ◌&&◌, not, List, [], ◌∷◌, ◌++◌, eqb, leb, ltb, ℤ, length}
use Rattle.interval.specs.Result.{Res, ok}
use Rattle.interval.specs.Scalar.{pick}
use Rattle.linear.specs.Replies.{checked_value}
use Rattle.linear.specs.Results.{bind}
use Rattle.sheet.specs.Text.{Part, part, MALFORMED, head, behind_key}
use Rattle.sheet.specs.Numbers.{whole_of, is_natural, is_between, one_of, two_of, three_of}
use Rattle.sheet.specs.declared.numbers.Number.{Number}
use Rattle.sheet.specs.declared.sheet.Rule.{Rule}
use Rattle.sheet.specs.Rule.{span, level, plumb}

-- x and y of each point, one after the other; points count from 0
pub record Sheet : Type 0 where
  pub coordinates : List ℤ
  pub limit : ℕ
  pub reach : ℕ
  pub rules : List Rule

abbrev pub point_count : List ℤ → ℕ
point_count coordinates = length coordinates / 2

-- ---- limits

abbrev pub most_bytes : ℕ
most_bytes = 4096

abbrev pub most_points : ℕ
most_points = 6

abbrev pub most_iterations : ℕ
most_iterations = 200

abbrev pub most_rules : ℕ
most_rules = 12

-- of a coordinate's size, a reach and a length
abbrev pub most_length : ℕ
most_length = 10000000

-- error 8: a number outside its range; 9: a rule with equal points or one not present
abbrev pub out_of_range : ℕ
out_of_range = 8

abbrev pub no_point : ℕ
no_point = 9

-- ---- the keys, in ASCII

abbrev pub points_key : List ℕ
points_key = 112 ∷ 111 ∷ 105 ∷ 110 ∷ 116 ∷ 115 ∷ 61 ∷ []

abbrev pub at_key : List ℕ
at_key = 97 ∷ 116 ∷ 61 ∷ []

abbrev pub limit_key : List ℕ
limit_key = 108 ∷ 105 ∷ 109 ∷ 105 ∷ 116 ∷ 61 ∷ []

abbrev pub reach_key : List ℕ
reach_key = 114 ∷ 101 ∷ 97 ∷ 99 ∷ 104 ∷ 61 ∷ []

abbrev pub rules_key : List ℕ
rules_key = 114 ∷ 117 ∷ 108 ∷ 101 ∷ 115 ∷ 61 ∷ []

abbrev pub span_key : List ℕ
span_key = 115 ∷ 112 ∷ 97 ∷ 110 ∷ 61 ∷ []

abbrev pub level_key : List ℕ
level_key = 108 ∷ 101 ∷ 118 ∷ 101 ∷ 108 ∷ 61 ∷ []

abbrev pub plumb_key : List ℕ
plumb_key = 112 ∷ 108 ∷ 117 ∷ 109 ∷ 98 ∷ 61 ∷ []

-- ---- lines

-- a key and a number from least to most
unfoldable pub natural_of : List ℕ → ℕ → ℕ → List ℕ → Res (Part ℕ)
natural_of key least most text =
    bind (behind_key key text)
    (λ fields.
    bind (one_of fields)
    (λ x. checked_value (is_between least most x.value) out_of_range (ok (part x.value.size x.rest))))

abbrev pub is_near : Number → Bool
is_near x = leb x.size most_length

-- at=X,Y
unfoldable pub point_of : List ℕ → Res (Part (ℤ × ℤ))
point_of text =
    bind (behind_key at_key text)
    (λ fields.
    bind (two_of fields)
    (λ p.
    let x = p.value.0 in
    let y = p.value.1 in
    checked_value (is_near x && is_near y) out_of_range (ok (part (whole_of x, whole_of y) p.rest))))

-- so many points, behind those read before
unfoldable pub points_from : ℕ → List ℤ → List ℕ → Res (Part (List ℤ))
points_from zero before text = ok (part before text)
points_from (suc k) before text =
    bind (point_of text) (λ p. points_from k (before ++ (p.value.0 ∷ (p.value.1 ∷ []))) p.rest)

-- ---- rules

abbrev pub is_present : ℕ → Number → Bool
is_present points i = is_natural i && ltb i.size points

-- two points of the sheet, not the same
abbrev pub are_two : ℕ → Number → Number → Bool
are_two points i j = is_present points i && is_present points j && not (eqb i.size j.size)

-- span=I,J,D
unfoldable pub span_of : ℕ → List ℕ → Res (Part Rule)
span_of points text =
    bind (behind_key span_key text)
    (λ fields.
    bind (three_of fields)
    (λ p.
    let i = p.value.0 in
    let j = p.value.1 in
    let d = p.value.2 in
    checked_value (is_between 1 most_length d) out_of_range
    (checked_value (are_two points i j) no_point (ok (part (span i.size j.size d.size) p.rest)))))

-- a key and I,J
unfoldable pub aligned_of : List ℕ → ℕ → List ℕ → Res (Part (ℕ × ℕ))
aligned_of key points text =
    bind (behind_key key text)
    (λ fields.
    bind (two_of fields)
    (λ p.
    let i = p.value.0 in
    let j = p.value.1 in
    checked_value (are_two points i j) no_point (ok (part (i.size, j.size) p.rest))))

unfoldable pub level_of : ℕ → List ℕ → Res (Part Rule)
level_of points text =
    bind (aligned_of level_key points text) (λ p. ok (part (level p.value.0 p.value.1) p.rest))

unfoldable pub plumb_of : ℕ → List ℕ → Res (Part Rule)
plumb_of points text =
    bind (aligned_of plumb_key points text) (λ p. ok (part (plumb p.value.0 p.value.1) p.rest))

-- by its first letter, which tells the keys apart
unfoldable pub rule_of : ℕ → List ℕ → Res (Part Rule)
rule_of points text =
    pick (eqb (head text) (head span_key)) (span_of points text)
    (pick (eqb (head text) (head level_key)) (level_of points text) (plumb_of points text))

-- so many rules, behind those read before
unfoldable pub rules_from : ℕ → ℕ → List Rule → List ℕ → Res (Part (List Rule))
rules_from points zero before text = ok (part before text)
rules_from points (suc k) before text =
    bind (rule_of points text) (λ p. rules_from points k (before ++ (p.value ∷ [])) p.rest)

-- ---- the sheet

-- points=N and the points; rules=M and the rules
unfoldable pub all_points_of : List ℕ → Res (Part (List ℤ))
all_points_of text =
    bind (natural_of points_key 1 most_points text) (λ count. points_from count.value [] count.rest)

unfoldable pub all_rules_of : ℕ → List ℕ → Res (Part (List Rule))
all_rules_of points text =
    bind (natural_of rules_key 0 most_rules text) (λ count. rules_from points count.value [] count.rest)

-- the lines behind the points
unfoldable pub behind_points_of : ℕ → List ℤ → List ℕ → Res (Part Sheet)
behind_points_of points coordinates text =
    bind (natural_of limit_key 0 most_iterations text)
    (λ limit.
    bind (natural_of reach_key 1 most_length limit.rest)
    (λ reach.
    bind (all_rules_of points reach.rest)
    (λ rules.
    ok (part
    (record { coordinates = coordinates; limit = limit.value; reach = reach.value; rules = rules.value })
    rules.rest))))

-- the sheet in front of a text, and what follows it
unfoldable pub sheet_of : List ℕ → Res (Part Sheet)
sheet_of text =
    bind (all_points_of text) (λ p. behind_points_of (point_count p.value) p.value p.rest)

-- the sheet that a text is
unfoldable pub read_of : List ℕ → Res Sheet
read_of text =
    checked_value (leb (length text) most_bytes) MALFORMED
    (bind (sheet_of text) (λ p. checked_value (eqb (length p.rest) 0) MALFORMED (ok p.value)))
