-- The texts of a spelling as the code writes them: the lines of the first points and rules with the line of one more,
-- the lines of a whole sheet, and the call that prints what another wrote or refused.
use Prim.Native.Nat.{ℕ, zero, suc, ◌+◌, ◌-◌, ◌*◌, ◌<◌}
use mathlib.Core.List.{List, [], ◌∷◌, ◌++◌, append_assoc, append-nil}
use mathlib.Core.Path.{◌≡◌, refl, sym, ap, ◌∙◌}
use native.Mathlib.Numerals.{add-one}
use native.Mathlib.Omega.{arith}
use borrow.Author.Tests.{eq-eqb}
use lib.IntN.{ℤ}
use lib.ListN.{length, get_or, take}
use Rattle.std.specs.Prelude.{Result, Ok, Err}
use Rattle.interval.specs.Result.{Res, ok, refused}
use Rattle.sheet.specs.Fault.{fault_number}
use Rattle.sheet.specs.Lines.{padded_to}
use Rattle.sheet.specs.Printing.{error_of}
use Rattle.sheet.specs.Sheet.{Sheet, most_bytes, points_key, limit_key, reach_key, rules_key, point_count, read_of}
use Rattle.sheet.specs.Spelling.{count_text, point_text, point_texts, rule_text, rule_texts, spelling_of}
use Rattle.sheet.specs.Spelling.{AfterSpelling, after_spelling, written_text, spelled_sheet, spell_text_of, returned_in}
use Rattle.sheet.specs.Spelling.{printed_spelling, print_spelling_of}
use Rattle.sheet.specs.program.Lines.{Appends}
use Rattle.sheet.specs.program.Settling.{Settles}
use Rattle.sheet.specs.program.Sheet.{coordinates_in, list_in, sheet_by}
use Rattle.sheet.specs.declared.fault.Fault.{Fault}
use Rattle.sheet.specs.declared.sheet.Rule.{Rule}
use Rattle.sheet.specs.declared.sheet.Sheet as declared
use Rattle.sheet.proofs.AppendLaws.{then, appends_none, appends_as}

-- ---- one line more

-- k is how many coordinates the first i points have
points-by : (k i : ℕ) → k ≡ 2 * i → (xs : List ℤ) (d : ℤ) → suc k < length xs →
    point_texts (take k xs) ++ point_text (get_or xs k d) (get_or xs (suc k) d) ≡ point_texts (take (suc (suc k)) xs)
unfolding point_texts
points-by k i e [] d h = absurd (omega arith)
points-by k i e (x ∷ []) d h = absurd (omega arith)
points-by zero i e (x ∷ y ∷ xs) d h = sym (append-nil (point_text x y))
points-by (suc zero) i e (x ∷ y ∷ xs) d h = absurd (omega arith)
points-by (suc (suc k)) i e (x ∷ y ∷ xs) d h =
    append_assoc (point_text x y) _ _
    ∙ ap (λ (t : List ℕ). point_text x y ++ t) (points-by k (i - 1) (omega arith) xs d (omega arith))

points_more : (i : ℕ) (xs : List ℤ) (d : ℤ) → 2 * i + 1 < length xs →
    point_texts (take (2 * i) xs) ++ point_text (get_or xs (2 * i) d) (get_or xs (2 * i + 1) d)
    ≡ point_texts (take (2 * (i + 1)) xs)
points_more i xs d h =
    let e : suc (suc (2 * i)) ≡ 2 * (i + 1) = omega arith in
    rw (add-one (2 * i)) (points-by (2 * i) i refl xs d (omega arith) ∙ ap (λ (k : ℕ). point_texts (take k xs)) e)

rules_by : (i : ℕ) (xs : List Rule) (d : Rule) → i < length xs →
    rule_texts (take i xs) ++ rule_text (get_or xs i d) ≡ rule_texts (take (suc i) xs)
unfolding rule_texts
rules_by i [] d h = absurd (omega arith)
rules_by zero (r ∷ xs) d h = sym (append-nil (rule_text r))
rules_by (suc i) (r ∷ xs) d h =
    append_assoc (rule_text r) _ _ ∙ ap (λ (t : List ℕ). rule_text r ++ t) (rules_by i xs d (omega arith))

-- ---- the loops

-- no lines of no points and no rules
pub points_none : {out : List ℕ} {place : ℕ} → Appends out place (point_texts []) out place
unfolding point_texts
points_none = appends_none

pub rules_none : {out : List ℕ} {place : ℕ} → Appends out place (rule_texts []) out place
unfolding rule_texts
rules_none = appends_none

-- one turn
module _ {before out after : List ℕ} {place end next : ℕ} where
  pub point_turn : (i : ℕ) (xs : List ℤ) (d : ℤ) {x y : ℤ} → 2 * i + 1 < length xs → x ≡ get_or xs (2 * i) d →
      y ≡ get_or xs (2 * i + 1) d → Appends before place (point_texts (take (2 * i) xs)) out end →
      Appends out end (point_text x y) after next →
      Appends before place (point_texts (take (2 * (i + 1)) xs)) after next
  point_turn i xs d h e f v w = appends_as (then v (rw (e, f) at w)) (points_more i xs d h)

  pub rule_turn : (i : ℕ) (xs : List Rule) (d : Rule) → i < length xs →
      Appends before place (rule_texts (take i xs)) out end → Appends out end (rule_text (get_or xs i d)) after next →
      Appends before place (rule_texts (take (i + 1) xs)) after next
  rule_turn i xs d h v w = appends_as (then v w) (rw add-one (rules_by i xs d h))

-- ---- the sheet

-- the counts are those of the lists
pub sheet_spelled : {s : declared.Sheet} → Settles s →
    count_text points_key s.points.count
    ++ (point_texts (coordinates_in s.points)
    ++ (count_text limit_key s.limit
    ++ (count_text reach_key s.reach
    ++ (count_text rules_key s.rules.count ++ rule_texts (list_in s.rules)))))
    ≡ spelling_of (sheet_by s)
unfolding spelling_of
sheet_spelled {s} h =
    let points : point_count (coordinates_in s.points) ≡ s.points.count = omega (arith, h.all_coordinates) in
    rw (points, h.all_rules)

-- the length of what is written, and the bytes
pub written_as : {n : ℕ} {out : List ℕ} (text : List ℕ) → (n ≡ length text) × (out ≡ padded_to most_bytes text) →
    after_spelling (ok n) out ≡ written_text text
written_as text e = rw (e.0, e.1)

-- ---- what is printed

same_returned : {x y : Res ℕ} {out after : List ℕ} → after_spelling x out ≡ after_spelling y after → x ≡ y
same_returned e = ap (λ (a : AfterSpelling). a.returned) e

-- a call that spelled into bytes of the right length
module _ (text out : List ℕ) (long : length out ≡ most_bytes) (r : Result ℕ Fault) {after : List ℕ}
    (e : after_spelling (returned_in r) after ≡ spell_text_of text out) where
  spelled : after_spelling (returned_in r) after ≡ spelled_sheet out (read_of text)
  unfolding spell_text_of
  spelled = rw (eq-eqb _ _ long) at e

  -- what was spelled is what is printed
  pub spelling_printed : {n : ℕ} → r ≡ Ok n → after_spelling (ok n) after ≡ print_spelling_of text out
  unfolding print_spelling_of
  spelling_printed {n} f = rw (eq-eqb _ _ long) (by (read_of text) (rw f at spelled))
    where
      by : (x : Res Sheet) → after_spelling (ok n) after ≡ spelled_sheet out x →
          after_spelling (ok n) after ≡ written_text (printed_spelling x)
      by (ok s) h = h
      by (refused k) h = cc (same_returned h)

  -- what was refused has an error, which is printed into the same bytes
  pub error_printed : {f : Fault} {k m : ℕ} {last : List ℕ} → r ≡ Err f → k ≡ fault_number f →
      length after ≡ length out → (m ≡ length (error_of k)) × (last ≡ padded_to (length after) (error_of k)) →
      after_spelling (ok m) last ≡ print_spelling_of text out
  unfolding print_spelling_of
  error_printed {f} {k} g n l p =
      let q = ap (λ (n : ℕ). padded_to n (error_of k)) (l ∙ long) in
      rw (eq-eqb _ _ long)
      (written_as (error_of k) (p.0, p.1 ∙ q) ∙ by (read_of text) (rw (g, sym n) at spelled))
    where
      by : (x : Res Sheet) → after_spelling (refused k) after ≡ spelled_sheet out x →
          written_text (error_of k) ≡ written_text (printed_spelling x)
      by (ok s) h = cc (same_returned h)
      by (refused j) h =
          let i : k ≡ j = cc (same_returned h) in
          ap (λ (n : ℕ). written_text (error_of n)) i
