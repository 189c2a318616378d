-- Directions taken one at a time: one turn more of each loop, the bound of the longest remainder, and what a turn does
-- to the directions that are still to be taken.
use Prim.Native.Nat.{ℕ, zero, suc, ◌+◌, ◌*◌, ◌-◌, ◌≤◌}
use mathlib.Core.Bool.{Bool, true, false}
use mathlib.Core.Path.{◌≡◌, refl, sym, ap, ◌∙◌}
use mathlib.Core.List.{List}
use native.Mathlib.Nat.{not-suc-le-zero}
use native.Mathlib.Numerals.{add-one}
use native.Mathlib.Omega.{arith}
use lib.Ieee.{Float}
use Rattle.interval.specs.declared.Scalar.{Scalar}
use Rattle.interval.specs.Result.{Res, ok, refused}
use Rattle.interval.specs.Scalar.{one64, zero_s, degenerate, pick, sqrt_of, sharpen, definitely_greater}
use Rattle.interval.proofs.Results.{refused_ok, ok_inj}
use Rattle.linear.specs.Flat.{put}
use Rattle.linear.specs.Results.{bind}
use Rattle.run.specs.Vectors.{matrix, row, fill_to, unit_at}
use Rattle.run.specs.NullSpace.{part_off, left_after, remainders_to, without_to, square_of, longest_to, Directions}
use Rattle.run.specs.NullSpace.{more, enough, take_longest, go_on, directions_to, directions_of}
use Rattle.run.specs.program.NullSpace.{longest_in, directions_in, span_of}
use Rattle.run.specs.declared.null_space.Remainder.{Remainder}

module _ (k : ℕ) {s : List Float} where
  pub after_turn : (q left : List Float) (p t : ℕ) → s ≡ left_after k q left p t
      → part_off k q t s p ≡ left_after k q left p (t + 1)
  unfolding left_after
  after_turn q left p t e = rw (e, add-one)

  pub remainders_turn : (r : ℕ) (q : List Float) (p : ℕ) → s ≡ remainders_to k r q p
      → left_after k q (put s (12 * p + p) (degenerate one64)) p r ≡ remainders_to k r q (p + 1)
  unfolding remainders_to
  remainders_turn r q p e = rw (e, add-one)

  pub without_turn : (z left : List Float) (t p : ℕ) → s ≡ without_to k z t left p
      → part_off k z t s p ≡ without_to k z t left (p + 1)
  unfolding without_to
  without_turn z left t p e = rw (e, add-one)

-- the longest remainder
at_choice : (f : ℕ → Scalar) (b : Bool) (p q : ℕ)
    → ◌≡◌ {A = Remainder} (pick b (record { place = p; square = f p }) (record { place = q; square = f q }))
    (record { place = pick b p q; square = f (pick b p q) })
at_choice f true p q = refl
at_choice f false p q = refl

choice_low : (b : Bool) {p q n : ℕ} → p ≤ n → q ≤ n → pick b p q ≤ n
choice_low true h g = h
choice_low false h g = g

module _ (k : ℕ) (left : List Float) where
  pub longest_low : (p : ℕ) → longest_to k left p ≤ p
  unfolding longest_to
  longest_low zero = omega arith
  longest_low (suc p) =
      choice_low (definitely_greater (square_of k left (suc p)) (square_of k left (longest_to k left p)))
      {p = suc p} {q = longest_to k left p} {n = suc p} (omega arith) (omega (arith, longest_low p))

  pub longest_turn : (p : ℕ) {best next : Remainder} {s : Scalar}
      → 1 ≤ p → best ≡ longest_in k left (p - 1) → s ≡ square_of k left p
      → next ≡ pick (definitely_greater s best.square) (record { place = p; square = s }) best
      → next ≡ longest_in k left (p + 1 - 1)
  unfolding longest_to
  longest_turn zero h eb es en = absurd (not-suc-le-zero h)
  longest_turn (suc p) h eb es en =
      let m : suc p + 1 - 1 ≡ suc p = omega arith in
      let m₀ : suc p - 1 ≡ p = omega arith in
      rw (m, en, eb, es, m₀)
      (at_choice (square_of k left)
      (definitely_greater (square_of k left (suc p)) (square_of k left (longest_to k left p))) (suc p) (longest_to k left p))

  -- the root that a turn asks for
  pub longest_place : (p : ℕ) {best : Remainder} → best ≡ longest_in k left p → best.place ≡ longest_to k left p
  longest_place p e = ap (λ b. b.place) e

  pub longest_root : (p : ℕ) {best : Remainder} {r : Res Scalar} → best ≡ longest_in k left p
      → r ≡ sqrt_of best.square → sqrt_of (square_of k left best.place) ≡ r
  longest_root p e h = rw (h, e)

-- one more direction, and at most t after it
module _ (k : ℕ) {n t : ℕ} (d : Directions) {best : ℕ}
    (en : n ≡ suc t) (eb : best ≡ longest_to k d.left (k - 1)) where
  pub turn_refused : {e : ℕ} → sqrt_of (square_of k d.left best) ≡ refused e → refused e ≡ span_of (directions_to k n d)
  unfolding span_of directions_to take_longest bind
  turn_refused er = rw (en, ← eb, er)

  module _ {l length : Scalar} {longer : Bool} (el : sqrt_of (square_of k d.left best) ≡ ok l)
      (es : length ≡ sharpen l) (eg : longer ≡ definitely_greater length zero_s) where
    test : definitely_greater (sharpen l) zero_s ≡ longer
    test = ap (λ x. definitely_greater x zero_s) (sym es) ∙ sym eg

    pub turn_last : longer ≡ false → ok (directions_in d.count d.z matrix) ≡ span_of (directions_to k n d)
    unfolding span_of directions_to take_longest bind
    turn_last e = rw (en, ← eb, el, test, e)

    module _ {z : List Float} (e : longer ≡ true)
        (ez : z ≡ fill_to d.z (12 * d.count) (unit_at (row d.left best) length) k) where
      pub turn_on : {left : List Float} → left ≡ without_to k z d.count d.left k
          → span_of (directions_to k t (directions_in (d.count + 1) z left)) ≡ span_of (directions_to k n d)
      unfolding directions_to take_longest bind
      turn_on ew = rw (en, ← eb, el, test, e, ← rw es at ez, ← ew)

      -- where none follows, whatever is left
      pub turn_full : (left : List Float) → t ≡ 0
          → span_of (directions_to k t (directions_in (d.count + 1) z left)) ≡ span_of (directions_to k n d)
      unfolding span_of directions_to bind
      turn_full left f =
          let left' : List Float = without_to k z d.count d.left k in
          let on : List Float → Res Directions = λ x. span_of (directions_to k t (directions_in (d.count + 1) z x)) in
          let s : on left ≡ on left' = rw f in
          s ∙ turn_on refl

pub directions_none : (k most count : ℕ) (z left : List Float)
    → span_of (directions_to k (most - most) (directions_in count z left)) ≡ ok (directions_in count z matrix)
unfolding span_of directions_to bind
directions_none k most count z left = let m : most - most ≡ 0 = omega arith in rw m

-- at most so many more, so no more than there are variables
module _ (d x : Directions) (n : ℕ) (f : Directions → Res Directions) where
  one_few : (b : Bool) (y : Directions) → y.count ≡ d.count + 1 → (f y ≡ ok x → x.count ≤ n + y.count)
      → go_on f d (pick b (more y) enough) ≡ ok x → x.count ≤ suc n + d.count
  one_few true y ey h q = omega (arith, ey, h q)
  one_few false y ey h q = let e : d.count ≡ x.count = ap (λ z. z.count) (ok_inj q) in omega (arith, e)

  more_few : (s : Res Scalar) (g : Scalar → Bool) (m : Scalar → Directions)
      → ((l : Scalar) → (m l).count ≡ d.count + 1)
      → ((l : Scalar) → f (m l) ≡ ok x → x.count ≤ n + (m l).count)
      → bind (bind s (λ l. ok (pick (g l) (more (m l)) enough))) (go_on f d) ≡ ok x
      → x.count ≤ suc n + d.count
  unfolding bind
  more_few (ok l) g m em h q = one_few (g l) (m l) (em l) (h l) q
  more_few (refused e) g m em h q = absurd (refused_ok q)

module _ (k : ℕ) where
  abbrev taken : Directions → Scalar → Directions
  taken d l =
      let z = fill_to d.z (12 * d.count) (unit_at (row d.left (longest_to k d.left (k - 1))) (sharpen l)) k in
      record { count = d.count + 1; z = z; left = without_to k z d.count d.left k }

  few : (t : ℕ) (d x : Directions) → directions_to k t d ≡ ok x → x.count ≤ t + d.count
  unfolding directions_to take_longest
  few zero d x e = let c : d.count ≡ x.count = ap (λ z. z.count) (ok_inj e) in omega (arith, c)
  few (suc t) d x e =
      more_few d x t (λ y. directions_to k t y) (sqrt_of (square_of k d.left (longest_to k d.left (k - 1))))
      (λ l. definitely_greater (sharpen l) zero_s) (taken d) (λ l. refl)
      (λ l q. few t (taken d l) x q)
      e

  span_few : (n : ℕ) (x : Res Directions) {d : Directions}
      → ((y : Directions) → x ≡ ok y → y.count ≤ n) → ok d ≡ span_of x → d.count ≤ n
  unfolding span_of bind
  span_few n (ok y) {d} h e = let c : d.count ≡ y.count = ap (λ z. z.count) (ok_inj e) in omega (arith, c, h y refl)
  span_few n (refused e) h q = absurd (refused_ok (sym q))

  pub directions_few : (r : ℕ) (q : List Float) {d : Directions} → ok d ≡ span_of (directions_of k r q) → d.count ≤ k
  unfolding directions_of
  directions_few r q e = span_few k (directions_of k r q) (λ y h. omega (arith, few (k - r) _ y h)) e
