-- Lines as the code reads them: each of their tests is the same of a number and of its cap.
use Prim.Native.Nat.{ℕ, ◌<◌, ◌≤◌}
use mathlib.Core.Bool.{Bool, true, false, ◌&&◌, not}
use mathlib.Core.List.{List}
use mathlib.Core.Path.{◌≡◌, refl, ap, ◌∙◌}
use native.Mathlib.Omega.{arith}
use borrow.Author.Tests.{lt-leb, le-ltb}
use lib.Dec.{leb, eqb}
use lib.IntN.{ℤ}
use Rattle.interval.specs.Result.{Res, ok, refused}
use Rattle.linear.specs.Replies.{checked_value}
use Rattle.linear.specs.Results.{bind}
use Rattle.sheet.specs.Text.{Part, part, behind_key}
use Rattle.sheet.specs.Numbers.{whole_of, is_natural, is_between, one_of, two_of, three_of}
use Rattle.sheet.specs.Rule.{span}
use Rattle.sheet.specs.Sheet.{most_points, most_length, out_of_range, no_point, at_key, span_key, is_near}
use Rattle.sheet.specs.Sheet.{is_present, are_two, natural_of, point_of, span_of, aligned_of}
use Rattle.sheet.specs.program.Numbers.{capped_number, capped_one, capped_two, capped_three}
use Rattle.sheet.specs.program.Sheet.{aligned_by}
use Rattle.sheet.specs.declared.numbers.Number.{Number}
use Rattle.sheet.specs.declared.sheet.Kind.{Kind}
use Rattle.sheet.specs.declared.sheet.Rule.{Rule}
use Rattle.sheet.proofs.NumberLaws.{far}
use Rattle.sheet.proofs.Tests.{last_fails}

bind_same : {A B : Type 0} (x : Res A) {f g : A → Res B} → ((a : A) → f a ≡ g a) → bind x f ≡ bind x g
unfolding bind
bind_same (ok a) h = h a
bind_same (refused k) h = refl

-- what does not tell numbers from their caps
module _ {B : Type 0} where
  through_one :
      (f : Part Number → Res B) →
      ((v : Number) (rest : List ℕ) → f (part v rest) ≡ f (part (capped_number v) rest)) →
      (x : Res (Part Number)) → bind x f ≡ bind (capped_one x) f
  unfolding bind
  through_one f h (ok p) = h p.value p.rest
  through_one f h (refused k) = refl

  through_two :
      (f : Part (Number × Number) → Res B) →
      ((v w : Number) (rest : List ℕ) → f (part (v, w) rest) ≡ f (part (capped_number v, capped_number w) rest)) →
      (x : Res (Part (Number × Number))) → bind x f ≡ bind (capped_two x) f
  unfolding bind
  through_two f h (ok p) = h p.value.0 p.value.1 p.rest
  through_two f h (refused k) = refl

  through_three :
      (f : Part (Number × Number × Number) → Res B) →
      ((u v w : Number) (rest : List ℕ) →
      f (part (u, v, w) rest) ≡ f (part (capped_number u, capped_number v, capped_number w) rest)) →
      (x : Res (Part (Number × Number × Number))) → bind x f ≡ bind (capped_three x) f
  unfolding bind
  through_three f h (ok p) = h p.value.0 p.value.1 p.value.2 p.rest
  through_three f h (refused k) = refl

-- a check that a number out of range fails
fails : {A : Type 0} {b : Bool} (k : ℕ) (x : Res A) → b ≡ false → checked_value b k x ≡ refused k
fails k x e = rw e

-- ---- a key and a number

abbrev pub within : ℕ → ℕ → Part Number → Res (Part ℕ)
within least most x =
    checked_value (is_between least most x.value) out_of_range (ok (part x.value.size x.rest))

too_large :
    (least most : ℕ) → most ≤ most_length → (x : Number) → most_length < x.size → is_between least most x ≡ false
too_large least most m x h =
    last_fails (is_natural x && leb least x.size) (lt-leb x.size most (omega arith))

pub natural_capped :
    (key : List ℕ) (least most : ℕ) (text : List ℕ) → most ≤ most_length →
    natural_of key least most text
    ≡ bind (behind_key key text) (λ fields. bind (capped_one (one_of fields)) (within least most))
unfolding natural_of
natural_capped key least most text m =
    bind_same (behind_key key text)
    (λ fields.
    through_one (within least most)
    (λ v rest.
    far (λ x. within least most (part x rest)) (λ x h. fails out_of_range _ (too_large least most m x h)) v)
    (one_of fields))

-- ---- a point

abbrev pub near : Part (Number × Number) → Res (Part (ℤ × ℤ))
near p =
    checked_value (is_near p.value.0 && is_near p.value.1) out_of_range
    (ok (part (whole_of p.value.0, whole_of p.value.1) p.rest))

not_near : (x : Number) → most_length < x.size → is_near x ≡ false
not_near x h = lt-leb x.size most_length h

pub point_capped :
    (text : List ℕ) → point_of text
    ≡ bind (behind_key at_key text) (λ fields. bind (capped_two (two_of fields)) near)
unfolding point_of
point_capped text =
    bind_same (behind_key at_key text)
    (λ fields.
    through_two near
    (λ v w rest.
    far
    (λ x. near (part (x, w) rest))
    (λ x h. fails out_of_range _ (ap (λ (b : Bool). b && is_near w) (not_near x h)))
    v
    ∙ far
    (λ y. near (part (capped_number v, y) rest))
    (λ y h. fails out_of_range _ (last_fails (is_near (capped_number v)) (not_near y h)))
    w)
    (two_of fields))

pub same_point :
    {x y v w : ℤ} (rest : List ℕ) → x ≡ v → y ≡ w →
    ok (part {A = ℤ × ℤ} (x, y) rest) ≡ ok (part {A = ℤ × ℤ} (v, w) rest)
same_point rest e d = rw (e, d)

-- ---- rules

module _ (points : ℕ) (few : points ≤ most_points) where
  absent : (x : Number) → most_length < x.size → is_present points x ≡ false
  absent x h = last_fails (is_natural x) (le-ltb x.size points (omega arith))

  first_absent : (j x : Number) → most_length < x.size → are_two points x j ≡ false
  first_absent j x h =
      ap (λ (b : Bool). (b && is_present points j) && not (eqb x.size j.size)) (absent x h)

  second_absent : (i x : Number) → most_length < x.size → are_two points i x ≡ false
  second_absent i x h =
      ap (λ (b : Bool). b && not (eqb i.size x.size)) (last_fails (is_present points i) (absent x h))

  abbrev pub checked_two : Part (Number × Number) → Res (Part (ℕ × ℕ))
  checked_two p =
      checked_value (are_two points p.value.0 p.value.1) no_point
      (ok (part (p.value.0.size, p.value.1.size) p.rest))

  pub aligned_capped :
      (key text : List ℕ) → aligned_of key points text
      ≡ bind (behind_key key text) (λ fields. bind (capped_two (two_of fields)) checked_two)
  unfolding aligned_of
  aligned_capped key text =
      bind_same (behind_key key text)
      (λ fields.
      through_two checked_two
      (λ v w rest.
      far (λ x. checked_two (part (x, w) rest)) (λ x h. fails no_point _ (first_absent w x h)) v
      ∙ far
      (λ y. checked_two (part (capped_number v, y) rest))
      (λ y h. fails no_point _ (second_absent (capped_number v) y h))
      w)
      (two_of fields))

  -- as a rule of a kind
  abbrev pub checked_kind : Kind → Part (Number × Number) → Res (Part Rule)
  checked_kind kind p =
      checked_value (are_two points p.value.0 p.value.1) no_point
      (ok
      (part (record { kind = kind; first = p.value.0.size; second = p.value.1.size; length = 0 }) p.rest))

  checked_by : (kind : Kind) (b : Bool) (p : Part (ℕ × ℕ)) →
      bind (checked_value b no_point (ok p)) (aligned_by kind) ≡ checked_value b no_point (aligned_by kind p)
  unfolding bind
  checked_by kind true p = refl
  checked_by kind false p = refl

  kind_by : (kind : Kind) (x : Res (Part (Number × Number))) →
      bind (bind x checked_two) (aligned_by kind) ≡ bind x (checked_kind kind)
  unfolding bind
  kind_by kind (ok p) = checked_by kind (are_two points p.value.0 p.value.1) _
  kind_by kind (refused k) = refl

  field_by : (kind : Kind) (x : Res (List ℕ)) →
      bind (bind x (λ fields. bind (capped_two (two_of fields)) checked_two)) (aligned_by kind)
      ≡ bind x (λ fields. bind (capped_two (two_of fields)) (checked_kind kind))
  unfolding bind
  field_by kind (ok fields) = kind_by kind (capped_two (two_of fields))
  field_by kind (refused k) = refl

  pub aligned_kind :
      (key text : List ℕ) (kind : Kind) → bind (aligned_of key points text) (aligned_by kind)
      ≡ bind (behind_key key text) (λ fields. bind (capped_two (two_of fields)) (checked_kind kind))
  aligned_kind key text kind =
      ap (λ (x : Res (Part (ℕ × ℕ))). bind x (aligned_by kind)) (aligned_capped key text)
      ∙ field_by kind (behind_key key text)

  abbrev pub checked_span : Part (Number × Number × Number) → Res (Part Rule)
  checked_span p =
      checked_value (is_between 1 most_length p.value.2) out_of_range
      (checked_value (are_two points p.value.0 p.value.1) no_point
      (ok (part (span p.value.0.size p.value.1.size p.value.2.size) p.rest)))

  pub span_capped :
      (text : List ℕ) → span_of points text
      ≡ bind (behind_key span_key text) (λ fields. bind (capped_three (three_of fields)) checked_span)
  unfolding span_of
  span_capped text =
      bind_same (behind_key span_key text)
      (λ fields.
      through_three checked_span
      (λ u v w rest.
      far
      (λ x. checked_span (part (x, v, w) rest))
      (λ x h. ap (checked_value (is_between 1 most_length w) out_of_range) (fails no_point _ (first_absent v x h)))
      u
      ∙ far
      (λ x. checked_span (part (capped_number u, x, w) rest))
      (λ x h.
      ap (checked_value (is_between 1 most_length w) out_of_range)
      (fails no_point _ (second_absent (capped_number u) x h)))
      v
      ∙ far
      (λ x. checked_span (part (capped_number u, capped_number v, x) rest))
      (λ x h. fails out_of_range _ (too_large 1 most_length (omega arith) x h))
      w)
      (three_of fields))
