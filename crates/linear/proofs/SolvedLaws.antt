-- `minus_solved` is the factor of J Jᵀ, and then the values by that factor.
use Rattle.std.specs.Prelude.{Result}
use mathlib.Core.Path.{◌≡◌, refl, sym, ap, ◌∙◌}
use Prim.Native.Nat.{ℕ, ◌+◌, ◌*◌, ◌≤◌}
use mathlib.Core.Bool.{Bool}
use mathlib.Core.List.{List}
use borrow.Author.Tests.{le-leb, eq-eqb}
use lib.Ieee.{Float}
use lib.ListN.{length, take}
use Rattle.interval.specs.Result.{Res, ok, refused}
use Rattle.interval.specs.declared.Scalar.{Scalar}
use Rattle.linear.specs.declared.results.LinearError.{LinearError}
use Rattle.linear.specs.LinearResult.{done_of}
use Rattle.linear.specs.Calls.{blank, minus_factored_reply}
use Rattle.linear.specs.Cholesky.{Factor, factor_of, cholesky_of}
use Rattle.linear.specs.Choose.{choose_of}
use Rattle.linear.specs.Dot.{minus_to}
use Rattle.linear.specs.Flat.{at, put, along, zeros}
use Rattle.linear.specs.Lengths.{SolvedLengths}
use Rattle.linear.specs.Replies.{replied, reply_of}
use Rattle.linear.specs.Results.{bind}
use Rattle.linear.specs.Solved.{gram_of, gram_at, LowerRows, multipliers_of, minus_at, minus_of, minus_solved_of}
use Rattle.linear.specs.Solved.{gram_factor_of, minus_factored_of}
use Rattle.linear.specs.Substitution.{solve_of}
use Rattle.linear.proofs.Agree.{minus_to-ext, list_to-ext}
use Rattle.linear.proofs.Folds.{bind_ok, bind_refused}
use Rattle.linear.proofs.Lists.{at_take}
use Rattle.linear.proofs.LowerTriangle.{cholesky_gram}
use Rattle.linear.proofs.Replied.{done_is, done_then}
use Rattle.linear.proofs.Sums.{along_start}

one_after_the_other : {A B C : Type 0} (x : Res A) (f : A → Res B) (g : B → Res C)
    → bind (bind x f) g ≡ bind x (λ a. bind (f a) g)
unfolding bind
one_after_the_other (ok a) f g = refl
one_after_the_other (refused k) f g = refl

module _ (m n : ℕ) (jc rhs from : List Float) where
  pub solved_in_two : minus_solved_of m n jc rhs from
      ≡ bind (gram_factor_of m n jc) (λ f. minus_factored_of m n jc f rhs from)
  unfolding minus_solved_of multipliers_of gram_factor_of minus_factored_of
  solved_in_two = one_after_the_other (cholesky_of m (gram_of m n jc)) _ _

  pub solved_by_factor : (f : Factor) → gram_factor_of m n jc ≡ ok f
      → minus_solved_of m n jc rhs from ≡ minus_factored_of m n jc f rhs from
  solved_by_factor f e = solved_in_two ∙ bind_ok _ e

  pub solved_refused : (k : ℕ) → gram_factor_of m n jc ≡ refused k → minus_solved_of m n jc rhs from ≡ refused k
  solved_refused k e = solved_in_two ∙ bind_refused _ e

-- ---- what the code works out
module _ (m n : ℕ) (jc : List Float) where
  pub gram_factor : (g : List Float) (r : Result (Unit {0}) LinearError) (f : Factor) → LowerRows (gram_at n jc) m m g
      → replied r f ≡ reply_of (blank m) (cholesky_of m g) → replied r f ≡ reply_of (blank m) (gram_factor_of m n jc)
  unfolding gram_factor_of
  gram_factor g r f e h = h ∙ ap (λ x. reply_of (blank m) x) (cholesky_gram m n jc g e)

  pub factor_done : (r : Result (Unit {0}) LinearError) (f : Factor)
      → replied r f ≡ reply_of (blank m) (gram_factor_of m n jc)
      → gram_factor_of m n jc ≡ done_of r f
  factor_done r f h = sym (done_is r f (blank m) (gram_factor_of m n jc) h)

  -- the values read the first m scalars of k alone
  minus_start : (from k : List Float) → 2 * m ≤ length k
      → minus_of m n jc from (take (2 * m) k) ≡ minus_of m n jc from k
  unfolding minus_of
  minus_start from k room =
      list_to-ext _ _ n
      (λ i _.
      ap choose_of
      (minus_to-ext (along jc i n) (along jc i n) (at (take (2 * m) k)) (at k) (at from i) m (λ j _. refl)
      (λ j h. at_take k m j h room)))

  pub minus_factored : (l : List Float) (left : List Bool) (rhs from k : List Float) (r : Result (Unit {0}) LinearError)
      → 2 * m ≤ length k
      → replied r (take (2 * m) k) ≡ reply_of (zeros (2 * m)) (solve_of m l left rhs)
      → done_of r (minus_of m n jc from k) ≡ minus_factored_of m n jc (factor_of l left) rhs from
  unfolding minus_factored_of
  minus_factored l left rhs from k r room h =
      ap (done_of r) (sym (minus_start from k room))
      ∙ done_then r (minus_of m n jc from) (take (2 * m) k)
      (done_is r (take (2 * m) k) (zeros (2 * m)) (solve_of m l left rhs) h)

-- where every count and every length is right, no check refuses
pub factored_reply : (m n : ℕ) (jc : List Float) (f : Factor) (rhs from out : List Float)
    → SolvedLengths m n (length jc) (length rhs) (length from) (length out) → length f.l ≡ 2 * (m * m)
    → length f.left_out ≡ m
    → minus_factored_reply m n jc f rhs from out ≡ reply_of (zeros (2 * n)) (minus_factored_of m n jc f rhs from)
unfolding minus_factored_reply
factored_reply m n jc f rhs from out lengths entries marks =
    rw (
      le-leb _ _ lengths.rows,
      le-leb _ _ lengths.columns,
      eq-eqb _ _ lengths.slopes,
      eq-eqb _ _ entries,
      eq-eqb _ _ marks,
      eq-eqb _ _ lengths.sides,
      eq-eqb _ _ lengths.start,
      eq-eqb _ _ lengths.values,
    )

-- ---- the values
module _ (m n : ℕ) (jc from k : List Float) where
  pub value-at : (i : ℕ) {x d z : Scalar} → x ≡ choose_of d → d ≡ minus_to (along jc i n) (along k 0 1) z m
      → z ≡ at from i → x ≡ minus_at m n jc from k i
  value-at i ex ed ez =
      ex ∙ ap choose_of (ed ∙ ap (λ (z : Scalar). minus_to (along jc i n) (along k 0 1) z m) ez ∙ rw along_start)

pub two_stored : (o : List Float) {p q : List Float} {v w x y : Scalar} (i : ℕ) → p ≡ put o i v → q ≡ put p (i + 1) w
    → v ≡ x → w ≡ y → q ≡ put (put o i x) (i + 1) y
two_stored o i ep eq ev ew = rw (← ev, ← ew, ← ep) eq
