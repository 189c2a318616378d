-- One factor of the constraints' products for both parts along them that an update of the curvature asks for.
use Rattle.std.specs.Prelude.{Err, Ok, Result}
use Prim.Native.Nat.{ℕ, ◌+◌, ◌*◌, ◌≤◌}
use mathlib.Core.Bool.{Bool}
use mathlib.Core.List.{List}
use mathlib.Core.Path.{◌≡◌, sym, ap, ◌∙◌}
use native.Mathlib.Omega.{arith}
use borrow.Author.Tests.{le-leb, eq-eqb}
use lib.Ieee.{Float}
use lib.ListN.{length, take}
use lib.Seq.{length-take-le}
use Rattle.interval.specs.Result.{refused}
use Rattle.linear.specs.LinearResult.{done_of, number_of}
use Rattle.linear.specs.Calls.{blank, gram_factor_reply, minus_factored_reply}
use Rattle.linear.specs.Cholesky.{Factor, factor_of}
use Rattle.linear.specs.Choose.{choose_of}
use Rattle.linear.specs.Dot.{dot_to}
use Rattle.linear.specs.Flat.{at, along, zeros, list_to}
use Rattle.linear.specs.Replies.{replied}
use Rattle.linear.specs.Results.{bind}
use Rattle.linear.specs.Solved.{gram_factor_of, minus_factored_of}
use Rattle.linear.specs.declared.results.LinearError.{LinearError}
use Rattle.linear.proofs.Lists.{length-list_to}
use Rattle.linear.proofs.Replied.{done_is, replied_apart}
use Rattle.linear.proofs.SolvedLaws.{solved_by_factor, solved_refused}
use Rattle.run.specs.Curvature.{along_of, update_curvature}
use Rattle.run.specs.program.Curvature.{Factored}
use Rattle.run.specs.Rows.{Evaluation, constraint_set, constraints_of, evaluation_of}
use Rattle.run.specs.Vectors.{fill_to, chosen_of}
use Rattle.run.specs.declared.rows.RowCounts.{RowCounts}
use Rattle.run.specs.declared.rows.RowSet.{RowSet}
use Rattle.run.specs.program.Rows.{FewRows}
use Rattle.run.proofs.CurvatureLaws.{along_lists}
use Rattle.run.proofs.VectorLaws.{fill_whole}

-- the calls, with counts up to 24 and slices of the right lengths
module _ (r : Result (Unit {0}) LinearError) (m n : ℕ) (hm : m ≤ 24) (hn : n ≤ 24) (jc : List Float)
    (lj : length jc ≡ 2 * (m * n)) where
  factor_result : (g : List Float) (f x : Factor) {g' : List Float} →
      length g ≡ 2 * (m * m) → length f.l ≡ 2 * (m * m) → length f.left_out ≡ m →
      replied r (g', x) ≡ gram_factor_reply m n jc g f → done_of r x ≡ gram_factor_of m n jc
  unfolding gram_factor_reply
  factor_result g f x p q s e =
      done_is r x (blank m) _ (replied_apart (zeros (2 * (m * m))) (blank m) r (gram_factor_of m n jc) (rw
      (le-leb _ _ hm, le-leb _ _ hn, eq-eqb _ _ lj, eq-eqb _ _ p, eq-eqb _ _ q, eq-eqb _ _ s) at e))

  minus_result : (f : Factor) (rhs from y x : List Float) →
      length f.l ≡ 2 * (m * m) → length f.left_out ≡ m → length rhs ≡ 2 * m → length from ≡ 2 * n →
      length y ≡ 2 * n →
      replied r x ≡ minus_factored_reply m n jc f rhs from y → done_of r x ≡ minus_factored_of m n jc f rhs from
  unfolding minus_factored_reply
  minus_result f rhs from y x p q s t u e =
      done_is r x (zeros (2 * n)) _
      (rw (
        le-leb _ _ hm,
        le-leb _ _ hn,
        eq-eqb _ _ lj,
        eq-eqb _ _ p,
        eq-eqb _ _ q,
        eq-eqb _ _ s,
        eq-eqb _ _ t,
        eq-eqb _ _ u,
      ) at e)

module _ (c : RowCounts) (xs : List Float) (few : FewRows c) where
  -- a part along the constraints by the factor; rhs' is the front of the array that was written
  pub along_by : (v jc rhs out : List Float) (f : Factor) → 2 * c.n ≤ length v →
      Factored (constraints_of c xs) jc f → (rhs₀ : List Float) {rhs' : List Float}
      (r : Result (Unit {0}) LinearError) (x : List Float) →
      length out ≡ 2 * c.n → length rhs₀ ≡ 2 * c.m → rhs' ≡ rhs →
      rhs ≡ fill_to rhs₀ 0 (λ i. dot_to (along jc (i * c.n) 1) (at v) c.n) c.m →
      replied r x ≡ minus_factored_reply c.m c.n jc f rhs' (take (2 * c.n) v) out →
      done_of r x ≡ along_of (constraints_of c xs) v
  along_by v jc rhs out f hv F rhs₀ r x lo lr fr er e₀ =
      let n = c.n in
      let m = c.m in
      let e : replied r x ≡ minus_factored_reply m n jc f rhs (take (2 * n) v) out = rw fr at e₀ in
      let wr = er ∙ fill_whole rhs₀ _ m lr in
      let kj : length jc ≡ 2 * (m * n) = rw F.slopes (length-list_to _ (m * n)) in
      let kr : length rhs ≡ 2 * m = rw wr (length-list_to _ m) in
      minus_result r m n (omega (arith, few.few_constraints)) (omega (arith, few.few_variables)) jc kj f rhs
      (take (2 * n) v) out x F.entries F.marks kr (length-take-le _ _ hv) lo e
      ∙ sym (solved_by_factor m n jc rhs (take (2 * n) v) f F.factor)
      ∙ along_lists c xs v jc rhs out few hv F.slopes wr

  -- jc' and jc'' are the front of the array that was written, l' and left' those of the factor's
  module _ (g : List Float) (f₀ f : Factor) (jc₀ : List Float) (r : Result (Unit {0}) LinearError)
      {g' jc jc' : List Float} {set : RowSet}
      (lj : length jc₀ ≡ 2 * (c.m * c.n)) (lg : length g ≡ 2 * (c.m * c.m))
      (ll : length f₀.l ≡ 2 * (c.m * c.m)) (lf : length f₀.left_out ≡ c.m)
      (es : set ≡ constraint_set c) (ej : jc ≡ chosen_of jc₀ xs set.slopes (set.count * set.n))
      (fj : jc' ≡ jc) (e : replied r (g', f) ≡ gram_factor_reply c.m c.n jc' g f₀) where
    written : jc ≡ list_to (λ p. choose_of (at xs (c.m + p))) (c.m * c.n)
    written = rw es at ej ∙ fill_whole jc₀ _ (c.m * c.n) lj

    ended : done_of r f ≡ gram_factor_of c.m c.n jc
    ended =
        let k : length jc ≡ 2 * (c.m * c.n) = rw written (length-list_to _ (c.m * c.n)) in
        factor_result r c.m c.n (omega (arith, few.few_constraints)) (omega (arith, few.few_variables)) jc k g
        f₀ f lg ll lf (rw fj at e)

    pub factored : {jc'' l' : List Float} {left' : List Bool} →
        length f.l ≡ 2 * (c.m * c.m) → length f.left_out ≡ c.m →
        r ≡ Ok tt → jc'' ≡ jc → l' ≡ f.l → left' ≡ f.left_out →
        Factored (constraints_of c xs) jc'' (factor_of l' left')
    factored kl kf h ej'' el ef =
        rw (ej'', el, ef)
        (record {
          slopes = written;
          factor = sym ended ∙ ap (λ (z : Result (Unit {0}) LinearError). done_of z f) h;
          entries = kl;
          marks = kf;
        })

    pub unfactored : (b step lambda x : List Float) (e' : Evaluation) {k : LinearError} → r ≡ Err k →
        done_of r x ≡ update_curvature c.n b step (evaluation_of c xs) e' lambda
    unfolding update_curvature along_of bind
    unfactored b step lambda x e' {k} h =
        let q : gram_factor_of c.m c.n jc ≡ refused (number_of k) =
        sym ended ∙ ap (λ (z : Result (Unit {0}) LinearError). done_of z f) h in
        rw (h, ← written, solved_refused c.m c.n jc _ _ _ q)
