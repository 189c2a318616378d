-- What a proposal makes of a step, and what it reads: the norm of a list's first scalars, and the parts of a standing
-- point that matter.
use mathlib.Core.Bool.{Bool, true, false}
use mathlib.Core.Path.{◌≡◌, refl, sym, ap, ◌∙◌}
use mathlib.Core.List.{List, []}
use Prim.Native.Nat.{ℕ, ◌+◌, ◌*◌, ◌<◌, ◌≤◌}
use native.Mathlib.Omega.{arith}
use borrow.Author.Tests.{lt-ltb, ltb-true, ltb-false}
use lib.Dec.{ltb}
use lib.Ieee.{Float, nan}
use lib.ListN.{length, length-replicate, get_or-replicate}
use Rattle.interval.specs.declared.Scalar.{Scalar}
use Rattle.interval.specs.Result.{ok, refused}
use Rattle.interval.specs.Scalar.{zero64, zero_s, pick, div_of, definitely_greater}
use Rattle.linear.specs.Choose.{choose_of}
use Rattle.linear.specs.Flat.{at, zeros}
use Rattle.linear.specs.Norm.{norm_of}
use Rattle.linear.specs.Results.{bind}
use Rattle.linear.proofs.FlatLaws.{at_inside}
use Rattle.linear.proofs.Folds.{bind_ok, bind_refused}
use Rattle.linear.proofs.Lists.{is-list_to}
use Rattle.run.specs.Proposal.{Standing, no_drop, unresolved, no_change, ask, expects_of, trial_of, shortened_of}
use Rattle.run.specs.Proposal.{tried_of}
use Rattle.run.specs.Proposal.{within_of, proposed_by, proposal_of}
use Rattle.run.specs.Vectors.{moved_of, same_of}
use Rattle.run.specs.Radius.{cut_of, cut_within}
use Rattle.run.specs.program.Proposal.{standing_with, model_of, point_of}
use Rattle.run.specs.Residuals.{predicted_of}
use Rattle.run.specs.Vectors.{vector, chosen_of, fill_to}
use Rattle.run.specs.Step.{Step, Stepped, found, step_of}
use Rattle.run.proofs.VectorLaws.{length-fill_to, at_fill_in, at_fill_ahead, fill_whole}

at_clear : (n i : ℕ) → 2 * i + 1 < n → at (zeros n) i ≡ zero_s
at_clear n i h =
    let h₀ : 2 * i < n = omega arith in
    let m : 2 * i + 1 < length (zeros n) = simp length-replicate h in
    rw (
      at_inside (zeros n) i (lt-ltb _ _ m),
      get_or-replicate n (2 * i) zero64 nan h₀,
      get_or-replicate n (2 * i + 1) zero64 nan h,
    )

-- a vector whose first n are chosen in their places, and the others cleared, is one that is chosen into a clear vector
module _ (xs : List Float) (n : ℕ) (long : length xs ≡ 24) (few : n ≤ 12) where
  abbrev chosen_at : ℕ → Scalar
  chosen_at i = pick (ltb i n) (choose_of (at xs i)) zero_s

  chosen_at_lem : (i : ℕ) → i < 12 → at (chosen_of vector xs 0 n) i ≡ chosen_at i
  chosen_at_lem i h = go (ltb i n) refl
    where
      m : 0 + i ≡ i
      m = omega arith

      go : (b : Bool) → ltb i n ≡ b → at (chosen_of vector xs 0 n) i ≡ pick b (choose_of (at xs i)) zero_s
      go true e =
          rw m at (at_fill_in vector 0 (λ j. choose_of (at xs (0 + j))) n i (ltb-true i n e)
          (simp length-replicate (omega arith)))
      go false e =
          rw m at (at_fill_ahead vector 0 (λ j. choose_of (at xs (0 + j))) n i (ltb-false i n e))
          ∙ at_clear 24 i (omega arith)

  pub chosen_in_place : fill_to xs 0 chosen_at 12 ≡ chosen_of vector xs 0 n
  chosen_in_place =
      fill_whole xs chosen_at 12 long
      ∙ sym (is-list_to chosen_at 12 (chosen_of vector xs 0 n) (length-fill_to vector 0 (λ j. choose_of (at xs (0 + j))) n
      ∙ length-replicate 24 zero64) chosen_at_lem)

-- a trial is made of the step chosen
pub trial_is : (S : Standing) (raw delta lambda : List Float) → delta ≡ chosen_of vector raw 0 S.n →
    tried_of S delta lambda ≡ trial_of S raw lambda
unfolding trial_of
trial_is S raw delta lambda e = ap (λ (d : List Float). tried_of S d lambda) e

module _ (S : Standing) (delta next lambda : List Float) (en : next ≡ moved_of S.n S.x delta) where
  pub tried_refused : {k : ℕ} → predicted_of S.e.constraints delta ≡ refused k → tried_of S delta lambda ≡ refused k
  tried_refused e = bind_refused _ e

  pub tried_same : {p : Scalar} → predicted_of S.e.constraints delta ≡ ok p → same_of S.n next S.x ≡ true →
      tried_of S delta lambda ≡ ok no_change
  tried_same {p} e s = bind_ok _ e ∙ rw (← en, s)

  pub tried_asks : {p : Scalar} → predicted_of S.e.constraints delta ≡ ok p → same_of S.n next S.x ≡ false
      → tried_of S delta lambda ≡ bind (norm_of (at delta) S.n) (λ tried. ok (ask (record {
        delta = delta;
        lambda = lambda;
        next = moved_of S.n S.x delta;
        predicted = p;
        tried = tried;
      })))
  tried_asks {p} e s = bind_ok _ e ∙ rw (← en, s)

-- what is read of a standing point
module _ (S : Standing) where
  pub expects_reads : (d : List Float) → expects_of (model_of S.n S.e S.f S.theta S.b) d ≡ expects_of S d
  unfolding expects_of
  expects_reads d = refl

  pub trial_reads : (d lambda : List Float) → trial_of (point_of S.n S.x S.e.constraints) d lambda
      ≡ trial_of S d lambda
  unfolding trial_of
  trial_reads d lambda = refl

  pub within_reads : (radius : Scalar) (d lambda : List Float) →
      within_of (standing_with S.n S.x S.e S.f S.theta S.b []) radius d lambda ≡ within_of S radius d
      lambda
  unfolding within_of shortened_of expects_of trial_of
  within_reads radius d lambda = refl

-- a step that is cut
module _ (S : Standing) (d lambda : List Float) where
  pub shortened_drop : expects_of S d ≡ ok true → shortened_of S d lambda ≡ trial_of S d lambda
  unfolding shortened_of
  shortened_drop e = bind_ok _ e

  pub shortened_not : expects_of S d ≡ ok false → shortened_of S d lambda ≡ ok unresolved
  unfolding shortened_of
  shortened_not e = bind_ok _ e

  pub shortened_refused : {k : ℕ} → expects_of S d ≡ refused k → shortened_of S d lambda ≡ refused k
  unfolding shortened_of
  shortened_refused e = bind_refused _ e

-- a step of that length, within the radius or cut to it
module _ (S : Standing) (radius : Scalar) (d lambda : List Float) where
  pub within_refused : {k : ℕ} → norm_of (at d) S.n ≡ refused k → within_of S radius d lambda ≡ refused k
  unfolding within_of
  within_refused e = bind_refused _ e

  pub within_whole : (l : Scalar) → norm_of (at d) S.n ≡ ok l → definitely_greater l radius ≡ false →
      within_of S radius d lambda ≡ trial_of S d lambda
  unfolding within_of
  within_whole l e g = bind_ok _ e ∙ rw g

  pub within_cut : (l : Scalar) → norm_of (at d) S.n ≡ ok l → definitely_greater l radius ≡ true
      → within_of S radius d lambda ≡ bind (div_of radius l) (λ shrink. shortened_of S (cut_of S.n d shrink) lambda)
  unfolding within_of
  within_cut l e g = bind_ok _ e ∙ rw g

-- the cut alone
module _ (n : ℕ) (radius : Scalar) (d : List Float) where
  pub cut_refused : {k : ℕ} → norm_of (at d) n ≡ refused k → cut_within n radius d ≡ refused k
  unfolding cut_within
  cut_refused e = bind_refused _ e

  pub cut_whole : (l : Scalar) → norm_of (at d) n ≡ ok l → definitely_greater l radius ≡ false →
      cut_within n radius d ≡ ok d
  unfolding cut_within
  cut_whole l e g = bind_ok _ e ∙ rw g

  pub cut_by : (l : Scalar) → norm_of (at d) n ≡ ok l → definitely_greater l radius ≡ true →
      cut_within n radius d ≡ bind (div_of radius l) (λ shrink. ok (cut_of n d shrink))
  unfolding cut_within
  cut_by l e g = bind_ok _ e ∙ rw g

-- what a step proposes
module _ (S : Standing) (mu radius : Scalar) where
  pub proposal_refused : {k : ℕ} → step_of S.n S.e S.b S.moving mu ≡ refused k →
      proposal_of S mu radius ≡ refused k
  unfolding proposal_of
  proposal_refused e = bind_refused _ e

  pub proposal_by : (s : Stepped) → step_of S.n S.e S.b S.moving mu ≡ ok s →
      proposal_of S mu radius ≡ proposed_by S radius s
  unfolding proposal_of
  proposal_by s e = bind_ok _ e

  module _ (x : Step) where
    pub proposed_refused : {k : ℕ} → expects_of S x.delta ≡ refused k → proposed_by S radius (found x) ≡ refused k
    proposed_refused e = bind_refused _ e

    pub proposed_drop : expects_of S x.delta ≡ ok true →
        proposed_by S radius (found x) ≡ within_of S radius x.delta x.lambda
    proposed_drop e = bind_ok _ e

    pub proposed_not : expects_of S x.delta ≡ ok false → proposed_by S radius (found x) ≡ ok (no_drop x.independent)
    proposed_not e = bind_ok _ e
