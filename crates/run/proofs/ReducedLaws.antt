-- The step along what is left free: how the weights come out of a factor, and how the step comes out of the weights.
use Rattle.std.specs.List.{list_any}
use Rattle.std.proofs.lemmas.List.Folds.{list_any_more}
use Rattle.std.specs.Prelude.{Err, Ok, Result}
use Prim.Native.Nat.{ℕ, zero, suc, ◌+◌, ◌*◌, ◌/◌, ◌%◌, ◌≤◌}
use mathlib.Core.Bool.{Bool, true, false, beq, ◌||◌}
use mathlib.Core.Path.{◌≡◌, refl, sym, ap, ◌∙◌}
use mathlib.Core.List.{List}
use borrow.Author.Tests.{le-ltb}
use lib.Ieee.{Float}
use lib.ListN.{get_or, length, take}
use lib.Seq.{take-length}
use native.Mathlib.Omega.{arith}
use Rattle.interval.specs.declared.Scalar.{Scalar}
use Rattle.interval.specs.Result.{Res, ok, refused}
use Rattle.interval.specs.Scalar.{neg_of}
use Rattle.linear.specs.Flat.{at, list_to}
use Rattle.linear.specs.Results.{bind}
use Rattle.linear.specs.Dot.{dot_to}
use Rattle.linear.specs.Choose.{choose_of, sharp_of}
use Rattle.linear.specs.Cholesky.{Factor, cholesky_of}
use Rattle.linear.specs.LinearResult.{done_of, number_of}
use Rattle.linear.specs.Calls.{solve_reply}
use Rattle.linear.specs.Replies.{replied}
use Rattle.linear.specs.declared.results.LinearError.{LinearError}
use Rattle.linear.specs.Substitution.{solve_of}
use Rattle.run.specs.Vectors.{vector, matrix, row, fill_rows, any_to, combined_to}
use Rattle.linear.proofs.LowerTriangle.{cholesky_entries}
use Rattle.run.proofs.LinearCalls.{solve_result}
use Rattle.run.specs.Problem.{Problem}
use Rattle.run.specs.NullSpace.{Directions}
use Rattle.run.specs.Reduced.{force_of, reduced_of, against_of, Weights, weights, none, weights_of}
use Rattle.run.specs.program.Reduced.{curved, spanned, lower_at, weights_result, solved_with, added_to, free_part}

-- a negation, chosen
pub negated : {v s n c : Scalar} → s ≡ v → n ≡ neg_of s → c ≡ choose_of n → c ≡ choose_of (neg_of v)
negated es en ec = rw (ec, en, es)

-- a slice's search for a set mark is the definition's
abbrev is_set : Bool → Bool
is_set b = beq b true

set_same : (b : Bool) → b ≡ is_set b
set_same true = refl
set_same false = refl

any_first : (xs : List Bool) (k : ℕ) → k ≤ length xs
    → any_to (λ i. get_or xs i false) k ≡ list_any is_set (take k xs)
unfolding any_to
any_first xs zero l = refl
any_first xs (suc k) l =
    let e : k + 1 ≡ suc k = omega arith in
    ap (λ (b : Bool). b || get_or xs k false) (any_first xs k (omega arith))
    ∙ ap (λ (b : Bool). list_any is_set (take k xs) || b) (set_same (get_or xs k false))
    ∙ sym (list_any_more is_set xs k false (omega arith))
    ∙ ap (λ (n : ℕ). list_any is_set (take n xs)) e

any_set : (xs : List Bool) → list_any is_set xs ≡ any_to (λ i. get_or xs i false) (length xs)
any_set xs =
    let e : take (length xs) xs ≡ xs = take-length xs in
    sym (any_first xs (length xs) (omega arith) ∙ ap (list_any is_set) e)

-- the weights from a factor that was found; left' is the front of the array of its marks
module _ (t : ℕ) (a rhs : List Float) (f : Factor) {r : Result (Unit {0}) LinearError} {left' : List Bool}
    {marked : Bool}
    (h : r ≡ Ok tt) (ef : done_of r f ≡ cholesky_of t a) (size : length f.left_out ≡ t)
    (kept : left' ≡ f.left_out) (em : marked ≡ list_any (λ y. beq y true) left') where
  marks : marked ≡ any_to (λ i. get_or f.left_out i false) t
  marks = rw size at (em ∙ ap (list_any is_set) kept ∙ any_set f.left_out)

  factored : weights_of t f rhs ≡ solved_with t a rhs
  unfolding solved_with bind
  factored = rw (← ef, h)

  pub weights_none : marked ≡ true → ok none ≡ solved_with t a rhs
  unfolding weights_of bind
  weights_none e = rw (← factored, ← marks, e)

  module _ {s : Result (Unit {0}) LinearError} (x : List Float) (e : marked ≡ false)
      (es : done_of s x ≡ solve_of t f.l f.left_out rhs) where
    pub weights_solved : {w : List Float} → s ≡ Ok tt → w ≡ sharp_of x t → ok (weights w) ≡ solved_with t a rhs
    unfolding weights_of bind
    weights_solved k ew = rw (← factored, ← marks, e, ← es, k, ew)

    pub weights_refused : {n : LinearError} → s ≡ Err n → refused (number_of n) ≡ solved_with t a rhs
    unfolding weights_of bind
    weights_refused k = rw (← factored, ← marks, e, ← es, k)

-- the weights where the factor is refused
pub unfactored : (t : ℕ) (a rhs : List Float) {r : Result (Unit {0}) LinearError} (f : Factor) {n : LinearError}
    → r ≡ Err n
    → done_of r f ≡ cholesky_of t a → refused (number_of n) ≡ solved_with t a rhs
unfolding solved_with bind
unfactored t a rhs f h e = rw (← e, h)

-- a solve of which l' and left' are the fronts of the arrays that the factor was written to
pub solve_fronts : (r : Result (Unit {0}) LinearError) (n : ℕ) (l : List Float) (left : List Bool) (b y x : List Float)
    {l' : List Float} {left' : List Bool}
    → n ≤ 24 → length l ≡ 2 * (n * n) → length left ≡ n → length b ≡ 2 * n → length y ≡ 2 * n → l' ≡ l
    → left' ≡ left → replied r x ≡ solve_reply n l' left' b y → done_of r x ≡ solve_of n l left b
solve_fronts r n l left b y x h ll lf lb ly kl kf e = solve_result r n l left b y x h ll lf lb ly (rw (kl, kf) at e)

-- the weights for a reduced matrix, from its lower triangle
pub lower_solved : (k count : ℕ) (z hz rhs : List Float)
    → solved_with count (list_to (λ p. lower_at k z hz (p / count) (p % count)) (count * count)) rhs
    ≡ solved_with count (list_to (λ p. choose_of (dot_to (row z (p / count)) (row hz (p % count)) k))
    (count * count)) rhs
unfolding solved_with lower_at
lower_solved k count z hz rhs =
    let whole : ℕ → ℕ → Scalar = λ i j. choose_of (dot_to (row z i) (row hz j) k) in
    rw (cholesky_entries count (lower_at k z hz) whole (λ i j h l. rw (le-ltb i j l)))

module _ (k count : ℕ) (h z : List Float) where
  -- the weights from what is written for them; a' is the front of the array that a was written to
  pub weighed_front : (force : List Float) {hz a a' rhs : List Float} {r : Res Weights}
      → hz ≡ fill_rows matrix (λ t i. choose_of (dot_to (row h i) (row z t) k)) k count
      → a ≡ list_to (λ p. lower_at k z hz (p / count) (p % count)) (count * count)
      → rhs ≡ list_to (λ t. choose_of (neg_of (dot_to (row z t) (at force) k))) count
      → a' ≡ a → r ≡ solved_with count a' rhs
      → r ≡ solved_with count (reduced_of (curved k h vector) (spanned count z))
      (against_of (curved k h vector) (spanned count z) force)
  unfolding reduced_of against_of
  weighed_front force {hz} {a} {a'} {rhs} eh ea eb ka er =
      er ∙ rw (ka, ea) (lower_solved k count z hz rhs ∙ rw (eh, eb))

  -- the step from the weights
  pub parted : (g delta : List Float) {f : List Float} {x : Res Weights}
      → f ≡ force_of (curved k h g) delta
      → x ≡ solved_with count (reduced_of (curved k h vector) (spanned count z))
      (against_of (curved k h vector) (spanned count z) f)
      → bind x (λ w. ok (added_to (curved k h g) delta (spanned count z) w))
      ≡ free_part (curved k h g) delta (spanned count z)
  unfolding free_part reduced_of against_of
  parted g delta ef ex = rw (ex, ef)

-- an end without weights: no part along Z, whatever the slice holds
pub unparted : (end : Result Bool LinearError) (w delta : List Float) (P : Problem) (d : Directions)
    → (end ≡ Ok true → ⊥)
    → weights_result end delta ≡ bind (weights_result end w) (λ u. ok (added_to P delta d u))
unfolding bind
unparted (Ok true) w delta P d k = absurd (k refl)
unparted (Ok false) w delta P d k = refl
unparted (Err e) w delta P d k = refl

-- the weights, added: w' is the front of the array that they were written to
pub parted_with : (k count : ℕ) (h z g delta : List Float) {f w w' delta' : List Float} {end : Result Bool LinearError}
    → f ≡ force_of (curved k h g) delta
    → weights_result end w ≡ solved_with count (reduced_of (curved k h vector) (spanned count z))
    (against_of (curved k h vector) (spanned count z) f)
    → end ≡ Ok true → w' ≡ w → delta' ≡ combined_to k w' z delta count
    → weights_result end delta' ≡ free_part (curved k h g) delta (spanned count z)
unfolding bind
parted_with k count h z g delta ef ex e kw ed = rw (e, ed, kw) (parted k count h z g delta ef (rw e at ex))
