-- Numbers with capped sizes: the cap at each digit is the cap of the whole, and what is the same for every size above
-- 10000000 does not tell a number from its cap.
use Prim.Native.Nat.{ℕ, ◌+◌, ◌-◌, ◌*◌, ◌<◌, ◌≤◌}
use mathlib.Core.Bool.{Bool, true, false}
use mathlib.Core.List.{List, [], ◌∷◌}
use mathlib.Core.Logic.{⊎_elim}
use mathlib.Core.Path.{◌≡◌, refl, sym, ap, ◌∙◌}
use native.Mathlib.Nat.{eq-zero-or-pos}
use native.Mathlib.Numerals.{add-one}
use native.Mathlib.Omega.{arith}
use borrow.Author.Tests.{le-leb, lt-leb, leb-true, eq-eqb, ne_eqb}
use lib.Dec.{leb}
use lib.ListN.{length, drop, get_or, drop_of_length-le}
use lib.Seq.{drop-cons, drop-drop, drop-length}
use Rattle.interval.specs.Result.{Res, ok, refused}
use Rattle.interval.specs.Scalar.{pick}
use Rattle.linear.specs.Results.{bind}
use Rattle.run.proofs.Booleans.{and_left, and_right}
use Rattle.sheet.specs.Text.{Part, part, MALFORMED, head, behind}
use Rattle.sheet.specs.Numbers.{is_digit, digits_from, unsigned_of, number_of, field_of, one_of, two_of, three_of}
use Rattle.sheet.specs.Numbers.{PLUS, MINUS, COMMA}
use Rattle.sheet.specs.Sheet.{most_length}
use Rattle.sheet.specs.program.Numbers.{CAP, capped, capped_number, capped_from, capped_one, capped_two, capped_three}
use Rattle.sheet.specs.declared.numbers.Number.{Number}

-- ---- a size and its cap

capped_small : {v : ℕ} → v ≤ CAP → capped v ≡ v
capped_small {v} h = rw (le-leb v CAP h)

capped_large : {v : ℕ} → CAP < v → capped v ≡ CAP
capped_large {v} h = rw (lt-leb v CAP h)

pub by_size : {A : Type 0} (most v : ℕ) → (v ≤ most → A) → (most < v → A) → A
by_size most v f g = ⊎_elim (λ h. f (omega arith)) (λ h. g (omega arith)) (eq-zero-or-pos (v - most))

pub capped_most : (v : ℕ) → capped v ≤ CAP
capped_most v = by_size CAP v (λ h. rw (capped_small h) h) (λ h. rw (capped_large h) (omega arith))

capped_turn : (v d : ℕ) → capped (10 * v + d) ≡ capped (10 * capped v + d)
capped_turn v d =
    by_size CAP v
    (λ h. ap (λ (s : ℕ). capped (10 * s + d)) (sym (capped_small h)))
    (λ h.
    let l : CAP < 10 * v + d = omega arith in
    let m : CAP < 10 * CAP + d = omega arith in
    capped_large l ∙ sym (ap (λ (s : ℕ). capped (10 * s + d)) (capped_large h) ∙ capped_large m))

-- what is the same for every number out of range
pub far :
    {B : Type 0} (f : Number → B) {z : B} → ((x : Number) → most_length < x.size → f x ≡ z) →
    (x : Number) → f x ≡ f (capped_number x)
far f h x =
    by_size CAP x.size
    (λ s. ap (λ (n : ℕ). f (record { negative = x.negative; size = n })) (sym (capped_small s)))
    (λ l. h x (omega arith) ∙ sym (h (capped_number x) (rw (capped_large l) (omega arith))))

-- ---- digits

pub digit : (b : ℕ) → is_digit b ≡ true → (48 ≤ b) × (b ≤ 57)
digit b e = (leb-true _ _ (and_left (leb 48 b) (leb b 57) e), leb-true _ _ (and_right (leb 48 b) (leb b 57) e))

abbrev capped_part : Part ℕ → Part ℕ
capped_part p = part (capped p.value) p.rest

picked :
    (t : Bool) (a b : Part ℕ) {x y : Part ℕ} → x ≡ capped_part a → y ≡ capped_part b →
    pick t x y ≡ capped_part (pick t a b)
picked true a b p q = p
picked false a b p q = q

capped-from : (v : ℕ) (text : List ℕ) → capped_from (capped v) text ≡ capped_part (digits_from v text)
unfolding capped_from digits_from
capped-from v [] = refl
capped-from v (b ∷ text) =
    let w = 10 * v + (b - 48) in
    picked (is_digit b) (digits_from w text) (part v (b ∷ text))
    (ap (λ (s : ℕ). capped_from s text) (sym (capped_turn v (b - 48))) ∙ capped-from w text) refl

module _ (text : List ℕ) (v i : ℕ) where
  pub from_turn :
      i < length text → is_digit (get_or text i 0) ≡ true →
      capped_from v (drop i text) ≡ capped_from (capped (10 * v + (get_or text i 0 - 48))) (drop (i + 1) text)
  unfolding capped_from
  from_turn h e = rw (drop-cons text i 0 h, e, add-one)

  pub from_stop :
      i < length text → is_digit (get_or text i 0) ≡ false → capped_from v (drop i text) ≡ part v (drop i text)
  unfolding capped_from
  from_stop h e = rw (drop-cons text i 0 h, e)

  pub from_end : length text ≤ i → capped_from v (drop i text) ≡ part v (drop (length text) text)
  unfolding capped_from
  from_end h = rw (drop_of_length-le text h, drop-length text)

module _ (negative : Bool) (text : List ℕ) where
  pub no_digit : is_digit (head text) ≡ false → capped_one (unsigned_of negative text) ≡ refused MALFORMED
  unfolding unsigned_of
  no_digit e = rw e

  pub digits_read :
      {v : ℕ} {rest : List ℕ} → is_digit (head text) ≡ true → capped_from 0 text ≡ part v rest →
      capped_one (unsigned_of negative text) ≡ ok (part (record { negative = negative; size = v }) rest)
  unfolding unsigned_of
  digits_read e d =
      rw e
      (ap
      (λ (p : Part ℕ). ok (part (record { negative = negative; size = p.value }) p.rest))
      (sym (capped-from 0 text) ∙ d))

-- ---- signs

module _ (text : List ℕ) (at : ℕ) where
  pub after_minus : head (drop at text) ≡ MINUS → number_of (drop at text) ≡ unsigned_of true (drop (at + 1) text)
  unfolding number_of
  after_minus e = rw (eq-eqb _ MINUS e, drop-drop 1 at text)

  pub after_plus : head (drop at text) ≡ PLUS → number_of (drop at text) ≡ unsigned_of false (drop (at + 1) text)
  unfolding number_of
  after_plus e =
      let other = ne_eqb (head (drop at text)) MINUS (λ q. let z = sym e ∙ q in omega arith) in
      rw (other, eq-eqb _ PLUS e, drop-drop 1 at text)

  pub no_sign :
      (head (drop at text) ≡ MINUS → ⊥) → (head (drop at text) ≡ PLUS → ⊥) →
      number_of (drop at text) ≡ unsigned_of false (drop at text)
  unfolding number_of
  no_sign m p = rw (ne_eqb _ MINUS m, ne_eqb _ PLUS p)

-- ---- fields: what is capped at the end can be capped at once

number_ended :
    (x : Number) (rest : Res (List ℕ)) → capped_one (bind rest (λ r. ok (part x r)))
    ≡ bind rest (λ r. ok (part (capped_number x) r))
unfolding bind
number_ended x (ok r) = refl
number_ended x (refused k) = refl

abbrev pub ended : ℕ → Part Number → Res (Part Number)
ended end x = bind (behind end x.rest) (λ rest. ok (part x.value rest))

field_by : (end : ℕ) (x : Res (Part Number)) → capped_one (bind x (ended end)) ≡ bind (capped_one x) (ended end)
unfolding bind
field_by end (ok p) = number_ended p.value (behind end p.rest)
field_by end (refused k) = refl

pub field_capped :
    (end : ℕ) (text : List ℕ) → capped_one (field_of end text) ≡ bind (capped_one (number_of text)) (ended end)
unfolding field_of
field_capped end text = field_by end (number_of text)

abbrev pub paired : Part Number → Part Number → Res (Part (Number × Number))
paired x y = ok (part (x.value, y.value) y.rest)

second_by :
    (x : Part Number) (y : Res (Part Number)) → capped_two (bind y (paired x))
    ≡ bind (capped_one y) (paired (part (capped_number x.value) x.rest))
unfolding bind
second_by x (ok p) = refl
second_by x (refused k) = refl

two_by :
    (x : Res (Part Number)) → capped_two (bind x (λ p. bind (one_of p.rest) (paired p)))
    ≡ bind (capped_one x) (λ p. bind (capped_one (one_of p.rest)) (paired p))
unfolding bind
two_by (ok p) = second_by p (one_of p.rest)
two_by (refused k) = refl

pub two_capped :
    (text : List ℕ) → capped_two (two_of text)
    ≡ bind (capped_one (field_of COMMA text)) (λ p. bind (capped_one (one_of p.rest)) (paired p))
unfolding two_of
two_capped text = two_by (field_of COMMA text)

abbrev pub tripled : Part Number → Part (Number × Number) → Res (Part (Number × Number × Number))
tripled x y = ok (part (x.value, y.value.0, y.value.1) y.rest)

third_by :
    (x : Part Number) (y : Res (Part (Number × Number))) → capped_three (bind y (tripled x))
    ≡ bind (capped_two y) (tripled (part (capped_number x.value) x.rest))
unfolding bind
third_by x (ok p) = refl
third_by x (refused k) = refl

three_by :
    (x : Res (Part Number)) → capped_three (bind x (λ p. bind (two_of p.rest) (tripled p)))
    ≡ bind (capped_one x) (λ p. bind (capped_two (two_of p.rest)) (tripled p))
unfolding bind
three_by (ok p) = third_by p (two_of p.rest)
three_by (refused k) = refl

pub three_capped :
    (text : List ℕ) → capped_three (three_of text)
    ≡ bind (capped_one (field_of COMMA text)) (λ p. bind (capped_two (two_of p.rest)) (tripled p))
unfolding three_of
three_capped text = three_by (field_of COMMA text)
