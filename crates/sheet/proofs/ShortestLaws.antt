-- No text that is read as a sheet is shorter than the sheet's spelling: each part takes at least the room in the text
-- that its spelling takes, from the digits, of which a number has no more than were read, to the sheet.
use Prim.Native.Nat.{ℕ, zero, suc, ◌+◌, ◌-◌, ◌*◌, ◌^◌, ◌/◌, ◌%◌, ◌<◌, ◌≤◌}
use mathlib.Core.Bool.{Bool, true, false, ◌&&◌}
use mathlib.Core.List.{List, [], ◌∷◌, ◌++◌, append_assoc, append-nil}
use mathlib.Core.Path.{◌≡◌, refl, sym, ap, subst, ◌∙◌}
use native.Mathlib.Nat.{pow-suc}
use native.Mathlib.Omega.{arith}
use borrow.Author.Tests.{lt-ltb, le-ltb}
use lib.Dec.{eqb, leb}
use lib.IntN.{ℤ, pos, neg_ℤ}
use lib.ListN.{length, length-append}
use Rattle.interval.specs.Result.{ok}
use Rattle.interval.specs.Scalar.{pick}
use Rattle.interval.proofs.Results.{refused_ok}
use Rattle.linear.proofs.Folds.{bind_value}
use Rattle.sheet.specs.Decimal.{DIGITS, decimal_to, decimal_of, whole_text}
use Rattle.sheet.specs.Lines.{line_of}
use Rattle.sheet.specs.Numbers.{is_digit, digits_from, unsigned_of, number_of, field_of, one_of, two_of, three_of}
use Rattle.sheet.specs.Numbers.{PLUS, MINUS, COMMA, line_feed, whole_of, is_between}
use Rattle.sheet.specs.Sheet.{Sheet, most_bytes, most_points, most_iterations, most_rules, most_length}
use Rattle.sheet.specs.Sheet.{at_key, span_key, level_key, plumb_key, points_key, limit_key, reach_key, rules_key}
use Rattle.sheet.specs.Sheet.{is_near, are_two, natural_of, point_of, points_from, point_count, span_of, aligned_of}
use Rattle.sheet.specs.Sheet.{level_of, plumb_of, rule_of, rules_from, all_points_of, all_rules_of, behind_points_of}
use Rattle.sheet.specs.Sheet.{sheet_of, read_of}
use Rattle.sheet.specs.Spelling.{count_text, point_text, point_texts, rule_text, rule_texts, spelling_of}
use Rattle.sheet.specs.Text.{Part, part, head, behind, behind_key}
use Rattle.sheet.specs.declared.numbers.Number.{Number}
use Rattle.sheet.specs.declared.sheet.Rule.{Rule}
use Rattle.sheet.proofs.NumberLaws.{by_size, digit}
use Rattle.sheet.proofs.RangeLaws.{picked}
use Rattle.sheet.proofs.SheetLaws.{checked_ok, same}

-- what was read and what follows it have room in the text
abbrev Room : {A : Type 0} → (A → ℕ) → List ℕ → Part A → Type 0
Room size text p = size p.value + length p.rest ≤ length text

room : {A : Type 0} (size : A → ℕ) (text : List ℕ) {rest : List ℕ} {v : A} {p : Part A} → ok (part v rest) ≡ ok p →
    size v + length rest ≤ length text → Room size text p
room size text e h = subst (Room size text) (same e) h

-- ---- digits

-- a number has at most as many digits as the power of 10 that is above it
decimal_short : (k v n : ℕ) → 1 ≤ v + n → v < 10 ^ n → length (decimal_to k v) ≤ n
unfolding decimal_to
decimal_short zero v n s b = omega arith
decimal_short (suc k) v zero s b = absurd (omega (arith, s, b))
decimal_short (suc k) v (suc n) s b =
    by_size 9 v
    (λ l. rw (lt-ltb v 10 (omega arith)) (omega arith))
    (λ l.
    let below : v / 10 < 10 ^ n = omega (arith, pow-suc 10 n, b) in
    let few = decimal_short k (v / 10) n (omega arith) below in
    rw (le-ltb v 10 (omega arith)) (omega (arith, length-append (decimal_to k (v / 10)) ((48 + v % 10) ∷ []), few)))

-- so many digits are read, behind j digits
abbrev Digits : ℕ → List ℕ → Part ℕ → Type 0
Digits j text p = (n : ℕ) × (length text ≡ n + length p.rest) × (p.value < 10 ^ (j + n))

digit_read : (j w b : ℕ) (text : List ℕ) → w < 10 ^ j →
    (is_digit b ≡ true → Digits (suc j) text (digits_from (10 * w + (b - 48)) text)) → (t : Bool) → is_digit b ≡ t →
    Digits j (b ∷ text) (pick t (digits_from (10 * w + (b - 48)) text) (part w (b ∷ text)))
digit_read j w b text h more true e =
    let d = more e in
    let q : suc j + d.0 ≡ j + suc d.0 = omega arith in
    (suc d.0, omega (arith, d.1), rw q at d.2)
digit_read j w b text h more false e = let q : j + 0 ≡ j = omega arith in (0, omega arith, rw q h)

digits_read : (j w : ℕ) (text : List ℕ) → w < 10 ^ j → Digits j text (digits_from w text)
unfolding digits_from
digits_read j w [] h = let q : j + 0 ≡ j = omega arith in (0, omega arith, rw q h)
digits_read j w (b ∷ text) h =
    digit_read j w b text h
    (λ e.
    let d = digit b e in
    digits_read (suc j) (10 * w + (b - 48)) text (omega (arith, pow-suc 10 j, h, d.0, d.1)))
    (is_digit b) refl

-- behind the first
digits_some : (b : ℕ) (text : List ℕ) → is_digit b ≡ true → Digits 1 text (digits_from 0 (b ∷ text))
unfolding digits_from
digits_some b text e =
    let d = digit b e in
    rw e (digits_read 1 (10 * 0 + (b - 48)) text (omega (arith, d.0, d.1)))

abbrev digits_size : Number → ℕ
digits_size x = length (decimal_of x.size)

unsigned_room : (negative : Bool) (text : List ℕ) {p : Part Number} → unsigned_of negative text ≡ ok p →
    Room digits_size text p × (p.value.negative ≡ negative)
unfolding unsigned_of
unsigned_room negative [] e = absurd (refused_ok e)
unsigned_room negative (b ∷ text) e =
    let c = checked_ok (is_digit b) _ _ e in
    let d = digits_some b text c.0 in
    let few = decimal_short DIGITS (digits_from 0 (b ∷ text)).value (1 + d.0) (omega arith) d.2 in
    (room digits_size (b ∷ text) c.1 (omega (arith, d.1, few)), ap (λ p. p.value.negative) (sym (same c.1)))

-- ---- numbers

abbrev whole_size : Number → ℕ
whole_size x = length (whole_text (whole_of x))

-- a whole number is written by its digits, behind a sign at most
signed : (negative : Bool) (size : ℕ) →
    let digits = length (decimal_of size) in
    let all = length (whole_text (pick negative (neg_ℤ (pos size)) (pos size))) in
    (digits ≤ all) × (all ≤ digits + 1)
signed true zero = omega arith
signed true (suc n) = omega arith
signed false n = omega arith

plain_room : (text : List ℕ) {p : Part Number} → unsigned_of false text ≡ ok p → Room whole_size text p
plain_room text e = let u = unsigned_room false text e in rw u.1 u.0

number_room : (text : List ℕ) {p : Part Number} → number_of text ≡ ok p → Room whole_size text p
unfolding number_of
number_room [] e = plain_room [] e
number_room (b ∷ text) {p} e =
    picked (eqb b MINUS) e
    (λ d. omega (arith, (unsigned_room true text d).0, signed p.value.negative p.value.size))
    (λ d. picked (eqb b PLUS) d (λ f. omega (arith, plain_room text f)) (plain_room (b ∷ text)))

behind_room : (b : ℕ) (text : List ℕ) {rest : List ℕ} → behind b text ≡ ok rest → length text ≡ 1 + length rest
unfolding behind
behind_room b [] e = absurd (refused_ok e)
behind_room b (c ∷ text) e =
    let d = checked_ok (eqb c b) _ _ e in
    let s = ap length (same d.1) in omega (arith, s)

field_room : (end : ℕ) (text : List ℕ) {p : Part Number} → field_of end text ≡ ok p →
    Room (λ x. whole_size x + 1) text p
unfolding field_of
field_room end text e =
    let x = bind_value (number_of text) _ e in
    let r = bind_value (behind end x.0.rest) _ x.2 in
    room (λ x. whole_size x + 1) text r.2
    (omega (arith, number_room text x.1, behind_room end x.0.rest r.1))

one_room : (text : List ℕ) {p : Part Number} → one_of text ≡ ok p → Room (λ x. whole_size x + 1) text p
unfolding one_of
one_room text e = field_room line_feed text e

abbrev two_size : Number × Number → ℕ
two_size p = whole_size p.0 + whole_size p.1 + 2

two_room : (text : List ℕ) {p : Part (Number × Number)} → two_of text ≡ ok p → Room two_size text p
unfolding two_of
two_room text e =
    let x = bind_value (field_of COMMA text) _ e in
    let y = bind_value (one_of x.0.rest) _ x.2 in
    room two_size text y.2 (omega (arith, field_room COMMA text x.1, one_room x.0.rest y.1))

abbrev three_size : Number × Number × Number → ℕ
three_size p = whole_size p.0 + whole_size p.1 + whole_size p.2 + 3

three_room : (text : List ℕ) {p : Part (Number × Number × Number)} → three_of text ≡ ok p → Room three_size text p
unfolding three_of
three_room text e =
    let x = bind_value (field_of COMMA text) _ e in
    let y = bind_value (two_of x.0.rest) _ x.2 in
    room three_size text y.2 (omega (arith, field_room COMMA text x.1, two_room x.0.rest y.1))

-- ---- lines

key_room : (key text : List ℕ) {rest : List ℕ} → behind_key key text ≡ ok rest → length text ≡ length key + length rest
unfolding behind_key
key_room [] text e = let s = ap length (same e) in omega (arith, s)
key_room (b ∷ key) text e =
    let f = bind_value (behind b text) _ e in
    omega (arith, behind_room b text f.1, key_room key f.0 f.2)

pub line_length : (key value : List ℕ) → length (line_of key value) ≡ length key + (length value + 1)
line_length key value = simp length-append

pub comma_length : (a b : List ℕ) → length (a ++ (COMMA ∷ b)) ≡ length a + (length b + 1)
comma_length a b = length-append a (COMMA ∷ b) ∙ omega arith

natural_room : (key : List ℕ) (least most : ℕ) (text : List ℕ) {p : Part ℕ} → natural_of key least most text ≡ ok p →
    Room (λ v. length (count_text key v)) text p
unfolding natural_of
natural_room key least most text e =
    let f = bind_value (behind_key key text) _ e in
    let x = bind_value (one_of f.0) _ f.2 in
    let v = x.0.value in
    let c = checked_ok (is_between least most v) _ _ x.2 in
    room (λ v. length (count_text key v)) text c.1
    (omega (
      arith,
      key_room key text f.1,
      one_room f.0 x.1,
      signed v.negative v.size,
      line_length key (decimal_of v.size),
    ))

abbrev point_size : ℤ × ℤ → ℕ
point_size p = length (point_text p.0 p.1)

point_room : (text : List ℕ) {p : Part (ℤ × ℤ)} → point_of text ≡ ok p → Room point_size text p
unfolding point_of
point_room text e =
    let f = bind_value (behind_key at_key text) _ e in
    let v = bind_value (two_of f.0) _ f.2 in
    let x = v.0.value.0 in
    let y = v.0.value.1 in
    let c = checked_ok (is_near x && is_near y) _ _ v.2 in
    let fields = comma_length (whole_text (whole_of x)) (whole_text (whole_of y)) in
    room point_size text c.1 (omega (
      arith,
      key_room at_key text f.1,
      two_room f.0 v.1,
      line_length at_key (whole_text (whole_of x) ++ (COMMA ∷ whole_text (whole_of y))),
      fields,
    ))

-- so many points, behind others
abbrev Points : ℕ → List ℤ → List ℕ → Part (List ℤ) → Type 0
Points n before text p =
    (xs : List ℤ) × (p.value ≡ before ++ xs) × (length xs ≡ 2 * n)
    × (length (point_texts xs) + length p.rest ≤ length text)

points_room : (n : ℕ) (before : List ℤ) (text : List ℕ) {p : Part (List ℤ)} → points_from n before text ≡ ok p →
    Points n before text p
unfolding points_from point_texts
points_room zero before text e =
    subst (Points 0 before text) (same e) ([], sym (append-nil before), omega arith, omega arith)
points_room (suc n) before text e =
    let q = bind_value (point_of text) _ e in
    let x = q.0.value.0 in
    let y = q.0.value.1 in
    let r = points_room n (before ++ (x ∷ (y ∷ []))) q.0.rest q.2 in
    let xs = r.0 in (
      x ∷ (y ∷ xs),
      r.1 ∙ append_assoc before (x ∷ (y ∷ [])) xs,
      omega (arith, r.2),
      omega (arith, r.3, point_room text q.1, length-append (point_text x y) (point_texts xs)),
    )

-- ---- rules

abbrev rule_size : Rule → ℕ
rule_size r = length (rule_text r)

module _ (points : ℕ) where
  span_room : (text : List ℕ) {p : Part Rule} → span_of points text ≡ ok p → Room rule_size text p
  unfolding span_of rule_text
  span_room text e =
      let f = bind_value (behind_key span_key text) _ e in
      let v = bind_value (three_of f.0) _ f.2 in
      let i = v.0.value.0 in
      let j = v.0.value.1 in
      let d = v.0.value.2 in
      let b = checked_ok (is_between 1 most_length d) _ _ v.2 in
      let c = checked_ok (are_two points i j) _ _ b.1 in
      let pair = decimal_of i.size ++ (COMMA ∷ decimal_of j.size) in
      room rule_size text c.1
      (omega (
        arith,
        key_room span_key text f.1,
        three_room f.0 v.1,
        signed i.negative i.size,
        signed j.negative j.size,
        signed d.negative d.size,
        comma_length (decimal_of i.size) (decimal_of j.size),
        comma_length pair (decimal_of d.size),
        line_length span_key (pair ++ (COMMA ∷ decimal_of d.size)),
      ))

  abbrev aligned_size : List ℕ → ℕ × ℕ → ℕ
  aligned_size key q = length (line_of key (decimal_of q.0 ++ (COMMA ∷ decimal_of q.1)))

  aligned_room : (key text : List ℕ) {p : Part (ℕ × ℕ)} → aligned_of key points text ≡ ok p →
      Room (aligned_size key) text p
  unfolding aligned_of
  aligned_room key text e =
      let f = bind_value (behind_key key text) _ e in
      let v = bind_value (two_of f.0) _ f.2 in
      let i = v.0.value.0 in
      let j = v.0.value.1 in
      let c = checked_ok (are_two points i j) _ _ v.2 in
      let fields = comma_length (decimal_of i.size) (decimal_of j.size) in
      room (aligned_size key) text c.1
      (omega (
        arith,
        key_room key text f.1,
        two_room f.0 v.1,
        signed i.negative i.size,
        signed j.negative j.size,
        fields,
        line_length key (decimal_of i.size ++ (COMMA ∷ decimal_of j.size)),
      ))

  level_room : (text : List ℕ) {p : Part Rule} → level_of points text ≡ ok p → Room rule_size text p
  unfolding level_of rule_text
  level_room text e =
      let q = bind_value (aligned_of level_key points text) _ e in
      room rule_size text q.2 (aligned_room level_key text q.1)

  plumb_room : (text : List ℕ) {p : Part Rule} → plumb_of points text ≡ ok p → Room rule_size text p
  unfolding plumb_of rule_text
  plumb_room text e =
      let q = bind_value (aligned_of plumb_key points text) _ e in
      room rule_size text q.2 (aligned_room plumb_key text q.1)

  rule_room : (text : List ℕ) {p : Part Rule} → rule_of points text ≡ ok p → Room rule_size text p
  unfolding rule_of
  rule_room text e =
      picked (eqb (head text) (head span_key)) e (span_room text)
      (λ d. picked (eqb (head text) (head level_key)) d (level_room text) (plumb_room text))

  -- so many rules, behind others
  abbrev Rules : ℕ → List Rule → List ℕ → Part (List Rule) → Type 0
  Rules n before text p =
      (rs : List Rule) × (p.value ≡ before ++ rs) × (length rs ≡ n)
      × (length (rule_texts rs) + length p.rest ≤ length text)

  rules_room : (n : ℕ) (before : List Rule) (text : List ℕ) {p : Part (List Rule)} →
      rules_from points n before text ≡ ok p → Rules n before text p
  unfolding rules_from rule_texts
  rules_room zero before text e =
      subst (Rules 0 before text) (same e) ([], sym (append-nil before), omega arith, omega arith)
  rules_room (suc n) before text e =
      let q = bind_value (rule_of points text) _ e in
      let x = q.0.value in
      let r = rules_room n (before ++ (x ∷ [])) q.0.rest q.2 in
      let rs = r.0 in (
        x ∷ rs,
        r.1 ∙ append_assoc before (x ∷ []) rs,
        omega (arith, r.2),
        omega (arith, r.3, rule_room text q.1, length-append (rule_text x) (rule_texts rs)),
      )

-- ---- the sheet

all_points_room : (text : List ℕ) {p : Part (List ℤ)} → all_points_of text ≡ ok p →
    Room (λ xs. length (count_text points_key (point_count xs)) + length (point_texts xs)) text p
unfolding all_points_of
all_points_room text e =
    let n = bind_value (natural_of points_key 1 most_points text) _ e in
    let r = points_room n.0.value [] n.0.rest n.2 in
    let c : point_count r.0 ≡ n.0.value = omega (arith, r.2) in
    rw (r.1, c) (omega (arith, natural_room points_key 1 most_points text n.1, r.3))

all_rules_room : (points : ℕ) (text : List ℕ) {p : Part (List Rule)} → all_rules_of points text ≡ ok p →
    Room (λ rs. length (count_text rules_key (length rs)) + length (rule_texts rs)) text p
unfolding all_rules_of
all_rules_room points text e =
    let n = bind_value (natural_of rules_key 0 most_rules text) _ e in
    let r = rules_room points n.0.value [] n.0.rest n.2 in
    rw (r.1, r.2) (omega (arith, natural_room rules_key 0 most_rules text n.1, r.3))

six_lengths : (a b c d e f : List ℕ) → length (a ++ (b ++ (c ++ (d ++ (e ++ f)))))
    ≡ length a + (length b + (length c + (length d + (length e + length f))))
six_lengths a b c d e f = simp length-append

pub spelling_length : (s : Sheet) → length (spelling_of s)
    ≡ length (count_text points_key (point_count s.coordinates)) + (length (point_texts s.coordinates)
    + (length (count_text limit_key s.limit) + (length (count_text reach_key s.reach)
    + (length (count_text rules_key (length s.rules)) + length (rule_texts s.rules)))))
unfolding spelling_of
spelling_length s =
    six_lengths (count_text points_key (point_count s.coordinates)) (point_texts s.coordinates)
    (count_text limit_key s.limit) (count_text reach_key s.reach) (count_text rules_key (length s.rules))
    (rule_texts s.rules)

sheet_room : (text : List ℕ) {p : Part Sheet} → sheet_of text ≡ ok p → Room (λ s. length (spelling_of s)) text p
unfolding sheet_of behind_points_of
sheet_room text e =
    let q = bind_value (all_points_of text) _ e in
    let xs = q.0.value in
    let limit = bind_value (natural_of limit_key 0 most_iterations q.0.rest) _ q.2 in
    let reach = bind_value (natural_of reach_key 1 most_length limit.0.rest) _ limit.2 in
    let rules = bind_value (all_rules_of (point_count xs) reach.0.rest) _ reach.2 in
    let s : Sheet =
    record { coordinates = xs; limit = limit.0.value; reach = reach.0.value; rules = rules.0.value } in
    room (λ s. length (spelling_of s)) text rules.2
    (omega (
      arith,
      spelling_length s,
      all_points_room text q.1,
      natural_room limit_key 0 most_iterations q.0.rest limit.1,
      natural_room reach_key 1 most_length limit.0.rest reach.1,
      all_rules_room (point_count xs) reach.0.rest rules.1,
    ))

pub read_room : (text : List ℕ) (s : Sheet) → read_of text ≡ ok s → length (spelling_of s) ≤ length text
unfolding read_of
read_room text s e =
    let c = checked_ok (leb (length text) most_bytes) _ _ e in
    let p = bind_value (sheet_of text) _ c.1 in
    let w = checked_ok (eqb (length p.0.rest) 0) _ _ p.2 in
    let v = same w.1 in
    let r = sheet_room text p.1 in
    rw (← v) (omega (arith, r))
