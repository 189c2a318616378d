-- The one spelling of a sheet is short enough to be read, and is read as the sheet. So what a call wrote says all that
-- the text said, and nothing else.
use Prim.Native.Nat.{ℕ, zero, suc, ◌+◌, ◌-◌, ◌*◌, ◌/◌, ◌%◌, ◌≤◌}
use mathlib.Core.Bool.{Bool, true, false}
use mathlib.Core.List.{List, [], ◌∷◌, ◌++◌, append-nil}
use mathlib.Core.Path.{◌≡◌, refl, sym, ap, ◌∙◌}
use native.Mathlib.Omega.{arith}
use borrow.Author.Tests.{lt-ltb, le-ltb, le-leb, eq-eqb, eqb-true}
use lib.Dec.{eqb}
use lib.IntN.{ℤ, pos, negsuc}
use lib.ListN.{length, replicate, take, length-append}
use lib.Seq.{take_at}
use Rattle.interval.specs.Result.{Res, ok, refused}
use Rattle.interval.specs.Scalar.{pick}
use Rattle.interval.proofs.Results.{refused_ok}
use Rattle.linear.proofs.Folds.{bind_ok}
use Rattle.sheet.specs.Decimal.{DIGITS, decimal_to, decimal_of, whole_text}
use Rattle.sheet.specs.Lines.{padded_to}
use Rattle.sheet.specs.Numbers.{COMMA}
use Rattle.sheet.specs.OneSpelling.{OneSpelling, Writes, bytes_of}
use Rattle.sheet.specs.Ranges.{InRange}
use Rattle.sheet.specs.Rule.{by_kind}
use Rattle.sheet.specs.declared.sheet.Kind.{Kind}
use Rattle.sheet.specs.declared.sheet.Kind.TheVariants.{Span, Level, Plumb}
use Rattle.sheet.specs.Sheet.{Sheet, most_bytes, point_count, sheet_of, read_of}
use Rattle.sheet.specs.Sheet.{at_key, limit_key, points_key, reach_key, rules_key, span_key, level_key, plumb_key}
use Rattle.sheet.specs.Spelling.{count_text, point_text, point_texts, pair_text, rule_text, rule_texts}
use Rattle.sheet.specs.Spelling.{spelling_of, written_text, refused_text, spelled_sheet, spell_text_of}
use Rattle.sheet.specs.Text.{wrong_length}
use Rattle.sheet.specs.declared.sheet.Rule.{Rule}
use Rattle.sheet.proofs.NumberLaws.{by_size}
use Rattle.sheet.proofs.RangeLaws.{read_in_range}
use Rattle.sheet.proofs.ReadBackLaws.{sheet_back}
use Rattle.sheet.proofs.SheetLaws.{same}
use Rattle.sheet.proofs.ShortestLaws.{line_length, comma_length, spelling_length, read_room}

-- ---- how long the lines are

digits_few : (k v : ℕ) → length (decimal_to k v) ≤ k
unfolding decimal_to
digits_few zero v = omega arith
digits_few (suc k) v =
    by_size 9 v
    (λ s. rw (lt-ltb v 10 (omega arith)) (omega arith))
    (λ l.
    rw (le-ltb v 10 (omega arith))
    (omega (arith, length-append (decimal_to k (v / 10)) ((48 + v % 10) ∷ []), digits_few k (v / 10))))

whole_few : (z : ℤ) → length (whole_text z) ≤ 21
whole_few (pos v) = omega (arith, digits_few DIGITS v)
whole_few (negsuc k) = omega (arith, digits_few DIGITS (suc k))

point_few : (x y : ℤ) → length (point_text x y) ≤ 47
point_few x y =
    omega (
      arith,
      line_length at_key (whole_text x ++ (COMMA ∷ whole_text y)),
      comma_length (whole_text x) (whole_text y),
      whole_few x,
      whole_few y,
    )

points_few : (xs : List ℤ) → length (point_texts xs) ≤ 24 * length xs
unfolding point_texts
points_few [] = omega arith
points_few (x ∷ []) = omega arith
points_few (x ∷ y ∷ xs) =
    omega (arith, length-append (point_text x y) (point_texts xs), point_few x y, points_few xs)

kind_few : {n : ℕ} (k : Kind) (x y z : List ℕ) → length x ≤ n → length y ≤ n → length z ≤ n →
    length (by_kind k x y z) ≤ n
kind_few Span x y z h g f = h
kind_few Level x y z h g f = g
kind_few Plumb x y z h g f = f

pair_few : (r : Rule) → length (pair_text r) ≤ 41
pair_few r =
    omega (
      arith,
      comma_length (decimal_of r.first) (decimal_of r.second),
      digits_few DIGITS r.first,
      digits_few DIGITS r.second,
    )

rule_few : (r : Rule) → length (rule_text r) ≤ 68
unfolding rule_text
rule_few r =
    let pair = pair_text r in
    let n = pair_few r in
    kind_few r.kind _ _ _
    (omega (
      arith,
      line_length span_key (pair ++ (COMMA ∷ decimal_of r.length)),
      comma_length pair (decimal_of r.length),
      n,
      digits_few DIGITS r.length,
    ))
    (omega (arith, line_length level_key pair, n)) (omega (arith, line_length plumb_key pair, n))

rules_few : (rules : List Rule) → length (rule_texts rules) ≤ 68 * length rules
unfolding rule_texts
rules_few [] = omega arith
rules_few (r ∷ rules) = omega (arith, length-append (rule_text r) (rule_texts rules), rule_few r, rules_few rules)

count_few : (key : List ℕ) (v : ℕ) → length (count_text key v) ≤ length key + 21
count_few key v = omega (arith, line_length key (decimal_of v), digits_few DIGITS v)

spelling_few : (s : Sheet) → InRange s → length (spelling_of s) ≤ most_bytes
spelling_few s h =
    omega (
      arith,
      spelling_length s,
      count_few points_key (point_count s.coordinates),
      points_few s.coordinates,
      count_few limit_key s.limit,
      count_few reach_key s.reach,
      count_few rules_key (length s.rules),
      rules_few s.rules,
      h.even,
      h.few_points,
      h.few_rules,
    )

-- ---- the text of a sheet

read_spelling : (s : Sheet) → InRange s → read_of (spelling_of s) ≡ ok s
unfolding read_of
read_spelling s h =
    rw (le-leb _ most_bytes (spelling_few s h), ← (append-nil (spelling_of s))) (bind_ok _ (sheet_back s h []))

-- ---- the call

-- what a call that writes has read and written
record Written (text out : List ℕ) (n : ℕ) : Type 0 where
  sheet : Sheet
  is_read : read_of text ≡ ok sheet
  is : spell_text_of text out ≡ written_text (spelling_of sheet)
  long : n ≡ length (spelling_of sheet)
  range : InRange sheet

-- a sheet that is read is written
is_written : (text out : List ℕ) {s : Sheet} → length out ≡ most_bytes → read_of text ≡ ok s →
    spell_text_of text out ≡ written_text (spelling_of s)
unfolding spell_text_of
is_written text out l e = rw (eq-eqb (length out) most_bytes l, e)

written_by : (text out : List ℕ) (n : ℕ) (b : Bool) (r : Res Sheet) → eqb (length out) most_bytes ≡ b →
    read_of text ≡ r → (pick b (spelled_sheet out r) (refused_text wrong_length out)).returned ≡ ok n → Written text out n
written_by text out n true (ok s) l e w = record {
  sheet = s;
  is_read = e;
  is = is_written text out (eqb-true _ _ l) e;
  long = sym (same w);
  range = read_in_range text s e;
}
written_by text out n true (refused k) l e w = absurd (refused_ok w)
written_by text out n false r l e w = absurd (refused_ok w)

written : (text out : List ℕ) (n : ℕ) → Writes text out n → Written text out n
unfolding spell_text_of
written text out n w = written_by text out n (eqb (length out) most_bytes) (read_of text) refl refl w

bytes_are : {text out : List ℕ} {n : ℕ} (w : Written text out n) →
    bytes_of text out ≡ padded_to most_bytes (spelling_of w.sheet)
bytes_are w = ap (λ a. a.out) w.is

read_back : (text out : List ℕ) (n : ℕ) → Writes text out n → read_of (take n (bytes_of text out)) ≡ read_of text
read_back text out n h =
    let w = written text out n h in
    let t = spelling_of w.sheet in
    rw (bytes_are w, take_at t (replicate (most_bytes - length t) 0) n (sym w.long))
    (read_spelling w.sheet w.range ∙ sym w.is_read)

same_bytes :
    (text₁ text₂ out₁ out₂ : List ℕ) (n₁ n₂ : ℕ) → Writes text₁ out₁ n₁ → Writes text₂ out₂ n₂ →
    read_of text₁ ≡ read_of text₂ → bytes_of text₁ out₁ ≡ bytes_of text₂ out₂
same_bytes text₁ text₂ out₁ out₂ n₁ n₂ h₁ h₂ e =
    let w₁ = written text₁ out₁ n₁ h₁ in
    let w₂ = written text₂ out₂ n₂ h₂ in
    let s = same (sym w₁.is_read ∙ e ∙ w₂.is_read) in
    bytes_are w₁ ∙ ap (λ s. padded_to most_bytes (spelling_of s)) s ∙ sym (bytes_are w₂)

same_sheet :
    (text₁ text₂ out₁ out₂ : List ℕ) (n₁ n₂ : ℕ) → Writes text₁ out₁ n₁ → Writes text₂ out₂ n₂ →
    bytes_of text₁ out₁ ≡ bytes_of text₂ out₂ → read_of text₁ ≡ read_of text₂
same_sheet text₁ text₂ out₁ out₂ n₁ n₂ h₁ h₂ e =
    let w₁ = written text₁ out₁ n₁ h₁ in
    let w₂ = written text₂ out₂ n₂ h₂ in
    let b = sym (bytes_are w₁) ∙ e ∙ bytes_are w₂ in
    let p = same (sym (sheet_back w₁.sheet w₁.range _) ∙ ap sheet_of b ∙ sheet_back w₂.sheet w₂.range _) in
    w₁.is_read ∙ ap (λ p. ok p.value) p ∙ sym w₂.is_read

twice :
    (text out again : List ℕ) (n : ℕ) → Writes text out n → length again ≡ most_bytes →
    spell_text_of (take n (bytes_of text out)) again ≡ spell_text_of text out
twice text out again n h l =
    let w = written text out n h in
    is_written (take n (bytes_of text out)) again l (read_back text out n h ∙ w.is_read) ∙ sym w.is

shortest : (text out : List ℕ) (n : ℕ) → Writes text out n → n ≤ length text
shortest text out n h =
    let w = written text out n h in
    rw w.long (read_room text w.sheet w.is_read)

pub one_spelling : OneSpelling
one_spelling = record {
  read_spelling = read_spelling;
  read_back = read_back;
  same_bytes = same_bytes;
  same_sheet = same_sheet;
  twice = twice;
  shortest = shortest;
}
