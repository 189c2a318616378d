-- Calls of linear with counts up to 24 and slices of the right lengths: the checks pass, so how a call ended, with what
-- it wrote, is the result.
use Rattle.std.specs.Prelude.{Result, Err}
use Rattle.linear.specs.declared.results.LinearError.{LinearError}
use Prim.Native.Nat.{ℕ, ◌*◌, ◌≤◌}
use mathlib.Core.Bool.{Bool}
use mathlib.Core.Path.{◌≡◌, ap}
use mathlib.Core.List.{List}
use borrow.Author.Tests.{le-leb, eq-eqb}
use lib.Ieee.{Float}
use lib.ListN.{length}
use Rattle.interval.specs.Result.{ok}
use Rattle.interval.proofs.Results.{refused_ok}
use Rattle.linear.specs.LinearResult.{done_of}
use Rattle.linear.specs.Flat.{zeros}
use Rattle.linear.specs.Replies.{Reply, replied, reply_of}
use Rattle.linear.specs.Cholesky.{Factor, cholesky_of}
use Rattle.linear.specs.Substitution.{solve_of}
use Rattle.linear.specs.Householder.{least_squares_of}
use Rattle.linear.specs.Solved.{minus_solved_of}
use Rattle.linear.specs.Choose.{sharp_of}
use Rattle.linear.specs.Calls.{blank, sharp_reply, cholesky_reply, solve_reply, least_squares_reply, minus_solved_reply}
use Rattle.linear.proofs.Replied.{done_is}

module _ (r : Result (Unit {0}) LinearError) where
  pub sharp_written : (n : ℕ) (v out x : List Float) → n ≤ 24 → length v ≡ 2 * n → length out ≡ 2 * n
      → replied r x ≡ sharp_reply n v out → x ≡ sharp_of v n
  unfolding sharp_reply
  sharp_written n v out x h p q e =
      let w : replied r x ≡ reply_of (zeros (2 * n)) (ok (sharp_of v n)) =
      rw (le-leb _ _ h, eq-eqb _ _ p, eq-eqb _ _ q) at e in
      ap (λ (y : Reply (List Float)). y.out) w

  -- `sharp` never refuses
  pub sharp_passes : (n : ℕ) (v out x : List Float) → n ≤ 24 → length v ≡ 2 * n → length out ≡ 2 * n
      → replied r x ≡ sharp_reply n v out → {k : LinearError} → r ≡ Err k → ⊥
  unfolding sharp_reply
  sharp_passes n v out x h p q e k =
      let w : replied r x ≡ reply_of (zeros (2 * n)) (ok (sharp_of v n)) =
      rw (le-leb _ _ h, eq-eqb _ _ p, eq-eqb _ _ q) at e in
      refused_ok (rw k at (ap (λ (y : Reply (List Float)). y.ended) w))

  pub cholesky_result : (n : ℕ) (a : List Float) (f x : Factor) → n ≤ 24 → length a ≡ 2 * (n * n)
      → length f.l ≡ 2 * (n * n) → length f.left_out ≡ n → replied r x ≡ cholesky_reply n a f
      → done_of r x ≡ cholesky_of n a
  unfolding cholesky_reply
  cholesky_result n a f x h p q s e =
      done_is r x (blank n) _ (rw (le-leb _ _ h, eq-eqb _ _ p, eq-eqb _ _ q, eq-eqb _ _ s) at e)

  pub solve_result : (n : ℕ) (l : List Float) (left : List Bool) (b y x : List Float)
      → n ≤ 24 → length l ≡ 2 * (n * n) → length left ≡ n → length b ≡ 2 * n → length y ≡ 2 * n
      → replied r x ≡ solve_reply n l left b y → done_of r x ≡ solve_of n l left b
  unfolding solve_reply
  solve_result n l left b y x h p q s t e =
      done_is r x (zeros (2 * n)) _ (rw (le-leb _ _ h, eq-eqb _ _ p, eq-eqb _ _ q, eq-eqb _ _ s, eq-eqb _ _ t) at e)

  pub least_squares_result : (m k : ℕ) (rows rhs y x : List Float)
      → m ≤ 24 → k ≤ 24 → length rows ≡ 2 * (m * k) → length rhs ≡ 2 * m → length y ≡ 2 * k
      → replied r x ≡ least_squares_reply m k rows rhs y → done_of r x ≡ least_squares_of m k rows rhs
  unfolding least_squares_reply
  least_squares_result m k rows rhs y x h i p q s e =
      done_is r x (zeros (2 * k)) _ (rw (le-leb _ _ h, le-leb _ _ i, eq-eqb _ _ p, eq-eqb _ _ q, eq-eqb _ _ s) at e)

  pub minus_solved_result : (m n : ℕ) (jc rhs from y x : List Float)
      → m ≤ 24 → n ≤ 24 → length jc ≡ 2 * (m * n) → length rhs ≡ 2 * m → length from ≡ 2 * n → length y ≡ 2 * n
      → replied r x ≡ minus_solved_reply m n jc rhs from y → done_of r x ≡ minus_solved_of m n jc rhs from
  unfolding minus_solved_reply
  minus_solved_result m n jc rhs from y x h i p q s t e =
      done_is r x (zeros (2 * n)) _
      (rw (le-leb _ _ h, le-leb _ _ i, eq-eqb _ _ p, eq-eqb _ _ q, eq-eqb _ _ s, eq-eqb _ _ t) at e)
