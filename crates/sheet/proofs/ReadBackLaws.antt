-- What is spelled is read back, whatever follows it: from the digits, which are read as they were divided off, over the
-- fields of a line and the lines to the sheet.
use Prim.Native.Nat.{ℕ, zero, suc, ◌+◌, ◌-◌, ◌*◌, ◌^◌, ◌/◌, ◌%◌, ◌<◌, ◌≤◌}
use mathlib.Core.Bool.{Bool, true, false}
use mathlib.Core.List.{List, [], ◌∷◌, ◌++◌, append_assoc, append-nil}
use mathlib.Core.Path.{◌≡◌, refl, ap, ◌∙◌}
use native.Mathlib.Nat.{pow-suc}
use native.Mathlib.Omega.{arith}
use borrow.Author.Tests.{lt-ltb, le-ltb, le-leb, eq-eqb, ne_eqb}
use lib.IntN.{ℤ, pos, negsuc}
use lib.ListN.{length}
use Rattle.interval.specs.Result.{ok}
use Rattle.linear.proofs.Folds.{bind_ok}
use Rattle.sheet.specs.Decimal.{DIGITS, decimal_to, decimal_of, whole_text}
use Rattle.sheet.specs.Lines.{line_of}
use Rattle.sheet.specs.Numbers.{is_digit, digits_from, unsigned_of, number_of, field_of, one_of, two_of, three_of}
use Rattle.sheet.specs.Numbers.{MINUS, COMMA, line_feed, whole_of}
use Rattle.sheet.specs.Ranges.{RuleInRange, InRange}
use Rattle.sheet.specs.Rule.{span}
use Rattle.sheet.specs.Sheet.{Sheet, most_points, most_iterations, most_rules, most_length, point_count}
use Rattle.sheet.specs.Sheet.{at_key, span_key, level_key, plumb_key, points_key, limit_key, reach_key, rules_key}
use Rattle.sheet.specs.Sheet.{natural_of, point_of, points_from, span_of, aligned_of, level_of, plumb_of, rule_of}
use Rattle.sheet.specs.Sheet.{rules_from, all_points_of, all_rules_of, behind_points_of, sheet_of}
use Rattle.sheet.specs.Spelling.{count_text, point_text, point_texts, pair_text, rule_text, rule_texts, spelling_of}
use Rattle.sheet.specs.Text.{part, head, behind, behind_key}
use Rattle.sheet.specs.declared.numbers.Number.{Number}
use Rattle.sheet.specs.declared.sheet.Kind.{Kind}
use Rattle.sheet.specs.declared.sheet.Kind.TheVariants.{Span, Level, Plumb}
use Rattle.sheet.specs.declared.sheet.Rule.{Rule}
use Rattle.sheet.proofs.NumberLaws.{by_size, digit, after_minus, no_sign}
use Rattle.sheet.proofs.RangeLaws.{All, Near, RulesInRange}

-- ---- digits

is_digit_lem : (d : ℕ) → d < 10 → is_digit (48 + d) ≡ true
is_digit_lem d h = rw (le-leb 48 (48 + d) (omega arith), le-leb (48 + d) 57 (omega arith))

one_digit : (w d : ℕ) (text : List ℕ) → d < 10 → digits_from w ((48 + d) ∷ text) ≡ digits_from (10 * w + d) text
unfolding digits_from
one_digit w d text h =
    let e : 10 * w + (48 + d - 48) ≡ 10 * w + d = omega arith in
    rw (is_digit_lem d h) (ap (λ (n : ℕ). digits_from n text) e)

digits_back : (k v : ℕ) (text : List ℕ) → v < 10 ^ k → digits_from 0 (decimal_to k v ++ text) ≡ digits_from v text
unfolding decimal_to
digits_back zero v text h = let e : 0 ≡ v = omega arith in ap (λ (n : ℕ). digits_from n text) e
digits_back (suc k) v text h =
    by_size 9 v
    (λ s.
    let e : 10 * 0 + v ≡ v = omega arith in
    rw (lt-ltb v 10 (omega arith)) (one_digit 0 v text (omega arith) ∙ ap (λ (n : ℕ). digits_from n text) e))
    (λ l.
    let d = 48 + v % 10 in
    let b : v / 10 < 10 ^ k = omega (arith, pow-suc 10 k, h) in
    let e : 10 * (v / 10) + v % 10 ≡ v = omega arith in
    rw (le-ltb v 10 (omega arith))
    (ap (digits_from 0) (append_assoc (decimal_to k (v / 10)) (d ∷ []) text)
    ∙ digits_back k (v / 10) (d ∷ text) b
    ∙ one_digit (v / 10) (v % 10) text (omega arith)
    ∙ ap (λ (n : ℕ). digits_from n text) e))

-- behind no digits, a digit must follow
first_digit : (k v : ℕ) (text : List ℕ) → (k ≡ 0 → is_digit (head text) ≡ true) →
    is_digit (head (decimal_to k v ++ text)) ≡ true
unfolding decimal_to
first_digit zero v text f = f refl
first_digit (suc k) v text f =
    by_size 9 v
    (λ s. rw (lt-ltb v 10 (omega arith)) (is_digit_lem v (omega arith)))
    (λ l.
    let d = 48 + v % 10 in
    rw (le-ltb v 10 (omega arith), append_assoc (decimal_to k (v / 10)) (d ∷ []) text)
    (first_digit k (v / 10) (d ∷ text) (λ e. is_digit_lem (v % 10) (omega arith))))

-- ---- numbers

-- what is read of a whole number
abbrev number_for : ℤ → Number
number_for (pos v) = record { negative = false; size = v }
number_for (negsuc k) = record { negative = true; size = suc k }

-- in front of a byte that ends it
module _ (end : ℕ) (other : is_digit end ≡ false) (rest : List ℕ) where
  digits_end : (v : ℕ) → digits_from v (end ∷ rest) ≡ part v (end ∷ rest)
  unfolding digits_from
  digits_end v = rw other

  starts : (v : ℕ) → is_digit (head (decimal_of v ++ (end ∷ rest))) ≡ true
  starts v = first_digit DIGITS v (end ∷ rest) (λ e. absurd (omega (arith, e)))

  unsigned_back : (negative : Bool) (v : ℕ) → v ≤ most_length →
      unsigned_of negative (decimal_of v ++ (end ∷ rest))
      ≡ ok (part (record { negative = negative; size = v }) (end ∷ rest))
  unfolding unsigned_of
  unsigned_back negative v h =
      rw (starts v, digits_back DIGITS v (end ∷ rest) (omega arith) ∙ digits_end v)

  number_back : (z : ℤ) → Near z → number_of (whole_text z ++ (end ∷ rest)) ≡ ok (part (number_for z) (end ∷ rest))
  number_back (pos v) h =
      let text = decimal_of v ++ (end ∷ rest) in
      let d = digit (head text) (starts v) in
      no_sign text 0 (λ e. absurd (omega (arith, d.0, e))) (λ e. absurd (omega (arith, d.0, e)))
      ∙ unsigned_back false v h
  number_back (negsuc k) h =
      after_minus (MINUS ∷ (decimal_of (suc k) ++ (end ∷ rest))) 0 refl ∙ unsigned_back true (suc k) h

  field_back : (z : ℤ) → Near z → field_of end (whole_text z ++ (end ∷ rest)) ≡ ok (part (number_for z) rest)
  unfolding field_of behind
  field_back z h = bind_ok _ (number_back z h) ∙ rw (eq-eqb end end refl) (bind_ok _ refl)

-- ---- the fields of a line

module _ (rest : List ℕ) where
  abbrev ended : List ℕ → List ℕ
  ended fields = fields ++ (line_feed ∷ rest)

  one_back : (z : ℤ) → Near z → one_of (ended (whole_text z)) ≡ ok (part (number_for z) rest)
  unfolding one_of
  one_back z h = field_back line_feed refl rest z h

  -- a first field and others
  split : (x : ℤ) (fields : List ℕ) → Near x →
      field_of COMMA (ended (whole_text x ++ (COMMA ∷ fields))) ≡ ok (part (number_for x) (ended fields))
  split x fields h =
      rw (append_assoc (whole_text x) (COMMA ∷ fields) (line_feed ∷ rest)) (field_back COMMA refl (ended fields) x h)

  two_back : (x y : ℤ) → Near x → Near y →
      two_of (ended (whole_text x ++ (COMMA ∷ whole_text y))) ≡ ok (part (number_for x, number_for y) rest)
  unfolding two_of
  two_back x y h g = bind_ok _ (split x (whole_text y) h) ∙ bind_ok _ (one_back y g)

  three_back : (x y z : ℤ) → Near x → Near y → Near z →
      three_of (ended ((whole_text x ++ (COMMA ∷ whole_text y)) ++ (COMMA ∷ whole_text z)))
      ≡ ok (part (number_for x, number_for y, number_for z) rest)
  unfolding three_of
  three_back x y z h g f =
      rw (append_assoc (whole_text x) (COMMA ∷ whole_text y) (COMMA ∷ whole_text z))
      (bind_ok _ (split x (whole_text y ++ (COMMA ∷ whole_text z)) h) ∙ bind_ok _ (two_back y z g f))

-- ---- lines

key_back : (key rest : List ℕ) → behind_key key (key ++ rest) ≡ ok rest
unfolding behind_key behind
key_back [] rest = refl
key_back (b ∷ key) rest = rw (eq-eqb b b refl) (bind_ok _ refl ∙ key_back key rest)

line_back : (key value rest : List ℕ) → behind_key key (line_of key value ++ rest) ≡ ok (value ++ (line_feed ∷ rest))
line_back key value rest =
    rw (append_assoc key (value ++ (line_feed ∷ [])) rest, append_assoc value (line_feed ∷ []) rest)
    (key_back key (value ++ (line_feed ∷ rest)))

natural_back : (key : List ℕ) (least most v : ℕ) (rest : List ℕ) → least ≤ v → v ≤ most → most ≤ most_length →
    natural_of key least most (count_text key v ++ rest) ≡ ok (part v rest)
unfolding natural_of
natural_back key least most v rest l m small =
    bind_ok _ (line_back key (decimal_of v) rest)
    ∙ bind_ok _ (one_back rest (pos v) (omega arith))
    ∙ rw (le-leb least v l, le-leb v most m)

near_size : (z : ℤ) → Near z → (number_for z).size ≤ most_length
near_size (pos v) h = h
near_size (negsuc k) h = h

whole_back : (z : ℤ) → whole_of (number_for z) ≡ z
whole_back (pos v) = refl
whole_back (negsuc k) = refl

point_back : (x y : ℤ) (rest : List ℕ) → Near x → Near y →
    point_of (point_text x y ++ rest) ≡ ok (part (x, y) rest)
unfolding point_of
point_back x y rest h g =
    bind_ok _ (line_back at_key (whole_text x ++ (COMMA ∷ whole_text y)) rest)
    ∙ bind_ok _ (two_back rest x y h g)
    ∙ rw (le-leb _ most_length (near_size x h), le-leb _ most_length (near_size y g), whole_back x, whole_back y)

points_back : (n : ℕ) (before coordinates : List ℤ) (rest : List ℕ) → length coordinates ≡ 2 * n →
    All Near (pos 0) coordinates →
    points_from n before (point_texts coordinates ++ rest) ≡ ok (part (before ++ coordinates) rest)
unfolding points_from point_texts
points_back zero before [] rest e a = rw (append-nil before)
points_back zero before (x ∷ xs) rest e a = absurd (omega (arith, e))
points_back (suc n) before [] rest e a = absurd (omega (arith, e))
points_back (suc n) before (x ∷ []) rest e a = absurd (omega (arith, e))
points_back (suc n) before (x ∷ y ∷ xs) rest e a =
    rw (append_assoc (point_text x y) (point_texts xs) rest)
    (bind_ok _ (point_back x y (point_texts xs ++ rest) (a 0 (omega arith)) (a 1 (omega arith)))
    ∙ points_back n (before ++ (x ∷ (y ∷ []))) xs rest (omega (arith, e))
    (λ i h. a (suc (suc i)) (omega (arith, h)))
    ∙ ap (λ (zs : List ℤ). ok (part zs rest)) (append_assoc before (x ∷ (y ∷ [])) xs))

-- ---- rules

module _ (points : ℕ) (few : points ≤ most_points) where
  aligned_back : (key : List ℕ) (r : Rule) (rest : List ℕ) → RuleInRange points r →
      aligned_of key points (line_of key (pair_text r) ++ rest) ≡ ok (part (r.first, r.second) rest)
  unfolding aligned_of
  aligned_back key r rest h =
      bind_ok _ (line_back key (pair_text r) rest)
      ∙ bind_ok _
      (two_back rest (pos r.first) (pos r.second) (omega (arith, h.first)) (omega (arith, h.second)))
      ∙ rw (lt-ltb _ points h.first, lt-ltb _ points h.second, ne_eqb _ _ h.distinct)

  span_back : (i j d : ℕ) (rest : List ℕ) → RuleInRange points (span i j d) →
      span_of points (rule_text (span i j d) ++ rest) ≡ ok (part (span i j d) rest)
  unfolding span_of rule_text
  span_back i j d rest h =
      bind_ok _ (line_back span_key (pair_text (span i j d) ++ (COMMA ∷ decimal_of d)) rest)
      ∙ bind_ok _
      (three_back rest (pos i) (pos j) (pos d) (omega (arith, h.first)) (omega (arith, h.second)) h.length)
      ∙ rw (
        le-leb 1 d (h.some_length refl),
        le-leb d most_length h.length,
        lt-ltb i points h.first,
        lt-ltb j points h.second,
        ne_eqb i j h.distinct,
      )

  -- a rule by its kind
  abbrev rule_by : ℕ → ℕ → ℕ → Kind → Rule
  rule_by i j d kind = record { kind = kind; first = i; second = j; length = d }

  kind_back : (i j d : ℕ) (kind : Kind) (rest : List ℕ) → RuleInRange points (rule_by i j d kind) →
      rule_of points (rule_text (rule_by i j d kind) ++ rest) ≡ ok (part (rule_by i j d kind) rest)
  unfolding rule_of rule_text level_of plumb_of
  kind_back i j d Span rest h = span_back i j d rest h
  kind_back i j d Level rest h =
      rw (h.no_length (λ e. cc)) (bind_ok _ (aligned_back level_key (rule_by i j d Level) rest h))
  kind_back i j d Plumb rest h =
      rw (h.no_length (λ e. cc)) (bind_ok _ (aligned_back plumb_key (rule_by i j d Plumb) rest h))

  rule_back : (r : Rule) (rest : List ℕ) → RuleInRange points r → rule_of points (rule_text r ++ rest) ≡ ok (part r rest)
  rule_back r rest h = kind_back r.first r.second r.length r.kind rest h

  rules_back : (before rules : List Rule) (rest : List ℕ) → RulesInRange points rules →
      rules_from points (length rules) before (rule_texts rules ++ rest) ≡ ok (part (before ++ rules) rest)
  unfolding rules_from rule_texts
  rules_back before [] rest a = rw (append-nil before)
  rules_back before (r ∷ rules) rest a =
      rw (append_assoc (rule_text r) (rule_texts rules) rest)
      (bind_ok _ (rule_back r (rule_texts rules ++ rest) (a 0 (omega arith)))
      ∙ rules_back (before ++ (r ∷ [])) rules rest (λ i h. a (suc i) (omega (arith, h)))
      ∙ ap (λ (rs : List Rule). ok (part rs rest)) (append_assoc before (r ∷ []) rules))

-- ---- the sheet

six_texts : (a b c d e f rest : List ℕ) →
    (a ++ (b ++ (c ++ (d ++ (e ++ f))))) ++ rest ≡ a ++ (b ++ (c ++ (d ++ (e ++ (f ++ rest)))))
six_texts a b c d e f rest = simp append_assoc

module _ (s : Sheet) (h : InRange s) where
  count_back : point_count s.coordinates ≡ h.points
  count_back = omega (arith, h.even)

  all_points_back : (rest : List ℕ) →
      all_points_of (count_text points_key (point_count s.coordinates) ++ (point_texts s.coordinates ++ rest))
      ≡ ok (part s.coordinates rest)
  unfolding all_points_of
  all_points_back rest =
      rw count_back
      (bind_ok _
      (natural_back points_key 1 most_points h.points _ h.some_points h.few_points (omega arith))
      ∙ points_back h.points [] s.coordinates rest h.even h.near)

  all_rules_back : (rest : List ℕ) →
      all_rules_of h.points (count_text rules_key (length s.rules) ++ (rule_texts s.rules ++ rest))
      ≡ ok (part s.rules rest)
  unfolding all_rules_of
  all_rules_back rest =
      bind_ok _ (natural_back rules_key 0 most_rules (length s.rules) _ (omega arith) h.few_rules (omega arith))
      ∙ rules_back h.points h.few_points [] s.rules rest h.rules

  pub sheet_back : (rest : List ℕ) → sheet_of (spelling_of s ++ rest) ≡ ok (part s rest)
  unfolding sheet_of behind_points_of spelling_of
  sheet_back rest =
      ap sheet_of
      (six_texts (count_text points_key (point_count s.coordinates)) (point_texts s.coordinates)
      (count_text limit_key s.limit) (count_text reach_key s.reach) (count_text rules_key (length s.rules))
      (rule_texts s.rules) rest)
      ∙ (bind_ok _ (all_points_back _)
      ∙ rw count_back
      (bind_ok _ (natural_back limit_key 0 most_iterations s.limit _ (omega arith) h.few_iterations (omega arith))
      ∙ bind_ok _ (natural_back reach_key 1 most_length s.reach _ h.some_reach h.small_reach (omega arith))
      ∙ bind_ok _ (all_rules_back rest)))
