-- The lines of a sheet one after the other: where all are read it is what they say, and the first fault is its fault.
use Prim.Native.Nat.{ℕ, ◌*◌, ◌≤◌, ◌<◌}
use mathlib.Core.Bool.{Bool, true, false, ◌&&◌}
use mathlib.Core.Path.{◌≡◌, refl, sym, ap, ◌∙◌}
use mathlib.Core.List.{List}
use native.Mathlib.Omega.{arith}
use borrow.Author.Tests.{le-leb, lt-leb, eq-eqb, ne_eqb, leb-true}
use lib.Dec.{leb}
use lib.ListN.{length, drop, length-drop}
use lib.Seq.{length-take-le}
use Rattle.interval.specs.Result.{Res, ok, refused}
use Rattle.linear.specs.Replies.{checked_value}
use Rattle.run.proofs.Booleans.{and_left, and_right}
use Rattle.linear.proofs.Folds.{bind_ok, bind_refused, bind_value}
use Rattle.sheet.specs.Text.{Part, part, MALFORMED, behind_key}
use Rattle.sheet.specs.Numbers.{is_natural, is_between, one_of}
use Rattle.sheet.specs.Sheet as definition
use Rattle.sheet.specs.Sheet.{point_count, most_bytes, most_points}
use Rattle.sheet.specs.Sheet.{natural_of}
use Rattle.sheet.specs.Sheet.{all_points_of, behind_points_of, sheet_of, read_of}
use Rattle.sheet.specs.program.Sheet.{coordinates_in}
use Rattle.sheet.specs.declared.numbers.Number.{Number}
use Rattle.sheet.specs.declared.sheet.Points.{Points}

-- ---- a number that is read is in its range

pub checked_ok : {A : Type 0} {y : A} (b : Bool) (k : ℕ) (x : Res A) → checked_value b k x ≡ ok y →
    (b ≡ true) × (x ≡ ok y)
checked_ok true k x e = (refl, e)
checked_ok false k x e = (cc, cc)

pub between_range : (least most : ℕ) (x : Number) → is_between least most x ≡ true →
    (least ≤ x.size) × (x.size ≤ most)
between_range least most x e =
    let a = is_natural x in
    let b = leb least x.size in
    let c = leb x.size most in
    (leb-true _ _ (and_right a b (and_left (a && b) c e)), leb-true _ _ (and_right (a && b) c e))

pub same : {A : Type 0} {x y : A} → ok x ≡ ok y → x ≡ y
same e = cc

pub natural_range : (key : List ℕ) (least most : ℕ) (text : List ℕ) {v : ℕ} {rest : List ℕ} →
    natural_of key least most text ≡ ok (part v rest) → (least ≤ v) × (v ≤ most)
unfolding natural_of
natural_range key least most text {v} e =
    let f = bind_value (behind_key key text) _ e in
    let x = bind_value (one_of f.0) _ f.2 in
    let c = checked_ok (is_between least most x.0.value) _ _ x.2 in
    let s = ap (λ p. p.value) (same c.1) in
    rw s at (between_range least most x.0.value c.0)

pub natural_most : (key : List ℕ) (least most : ℕ) (text : List ℕ) {v : ℕ} {rest : List ℕ} →
    natural_of key least most text ≡ ok (part v rest) → v ≤ most
natural_most key least most text e = (natural_range key least most text e).1

-- ---- the sheet

-- as many points as the array has in use
pub count_is : (p : Points) → length p.coordinates ≡ 12 → p.count ≤ most_points →
    point_count (coordinates_in p) ≡ p.count
count_is p l h =
    let m = length-take-le (2 * p.count) p.coordinates (omega arith) in
    omega (arith, m)

module _ (text : List ℕ) where
  pub sheet_behind : (p : Points) {rest : List ℕ} {r : Res (Part definition.Sheet)} → length p.coordinates ≡ 12 →
      p.count ≤ most_points → ok (part (coordinates_in p) rest) ≡ all_points_of text →
      r ≡ behind_points_of p.count (coordinates_in p) rest → r ≡ sheet_of text
  unfolding sheet_of
  sheet_behind p {rest} l h e f =
      f ∙ ap (λ (n : ℕ). behind_points_of n (coordinates_in p) rest) (sym (count_is p l h)) ∙ sym (bind_ok _ (sym e))

  -- more bytes than a sheet has
  pub read_long : most_bytes < length text → refused MALFORMED ≡ read_of text
  unfolding read_of
  read_long h = rw (lt-leb (length text) most_bytes h)

  module _ (few : length text ≤ most_bytes) where
    module _ {s : definition.Sheet} {place : ℕ} (e : ok (part s (drop place text)) ≡ sheet_of text) where
      -- something follows the sheet
      pub read_surplus : place < length text → refused MALFORMED ≡ read_of text
      unfolding read_of
      read_surplus h =
          let n : length (drop place text) ≡ 0 → ⊥ = λ q. omega (arith, length-drop place text) in
          rw (le-leb _ _ few) (sym (bind_ok _ (sym e) ∙ rw (ne_eqb _ _ n)))

      pub read_whole : length text ≤ place → ok s ≡ read_of text
      unfolding read_of
      read_whole h =
          let l : length (drop place text) ≡ 0 = length-drop place text ∙ omega arith in
          rw (le-leb _ _ few) (sym (bind_ok _ (sym e) ∙ rw (eq-eqb _ _ l)))

    pub read_fault : {k : ℕ} → refused k ≡ sheet_of text → refused k ≡ read_of text
    unfolding read_of
    read_fault e = rw (le-leb _ _ few) (sym (bind_refused _ (sym e)))
