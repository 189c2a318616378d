-- From an accepted answer to the next question, the finish or refusal 5 or 6, the lengths of the memory come to those
-- in use by the phase that the call leaves. A search reads lists of their whole lengths and asks a point, a step and
-- multipliers cut from vectors; a point that lands, a step taken and the curvature learned keep their lengths, and the
-- filter has one pair more; a finish and a refusal leave the standing point alone. Iterations stay within the limit:
-- one more follows only from below it.
use Prim.Native.Nat.{ℕ, zero, suc, ◌+◌, ◌*◌, ◌<◌, ◌≤◌}
use mathlib.Core.Bool.{Bool, true, false, not, ◌&&◌, ◌||◌}
use mathlib.Core.Path.{◌≡◌, refl, ◌∙◌}
use mathlib.Core.List.{List}
use native.Mathlib.Omega.{arith}
use borrow.Author.Tests.{lt-leb, eqb-true}
use lib.Dec.{T, eqb, leb}
use lib.Ieee.{Float}
use lib.ListN.{length, take, length-append, length-replicate}
use lib.Seq.{length-take-le}
use Rattle.interval.specs.declared.Scalar.{Scalar}
use Rattle.interval.specs.Result.{Res, ok, refused}
use Rattle.interval.specs.Scalar.{pick, degenerate, div_of, is_finite, sharpen, definitely_greater, definitely_less}
use Rattle.interval.specs.Scalar.{zero64}
use Rattle.interval.specs.Scaling.{three64, four64}
use Rattle.linear.specs.Flat.{zeros}
use Rattle.run.specs.Answered.{started, answered, answered_none}
use Rattle.run.specs.Area.{Memory, numbers_in, used_in, only_standing, with_start, with_trial, with_asked}
use Rattle.run.specs.Area.{with_landed, with_taken, rows_at, standing_at, landed_at}
use Rattle.run.specs.Area.{curvature_of, pairs_in}
use Rattle.run.specs.Calls.{refused_by_check, Follows}
use Rattle.run.specs.Corrected.{to, stay, shift_of, shift_from, shifted_step, correct, land_trial, keep}
use Rattle.run.specs.Corrected.{land_correction}
use Rattle.run.specs.Curvature.{learned_of, update_curvature}
use Rattle.run.specs.Damping.{grown, damped, shrunk}
use Rattle.run.specs.Decide as run
use Rattle.run.specs.Decide.{grow, turn_down, not_lower, linear_of, was_taken, decide, judge}
use Rattle.run.specs.Endings.{AfterSlots, finish, refuse, or_refuse, question}
use Rattle.run.specs.Filter.{filter_with, pair_numbers}
use Rattle.run.specs.Iterate.{standing_of, left_at, search, iterate}
use Rattle.run.specs.Judgement.{Judged, judge_of}
use Rattle.run.specs.Limits.{VARIABLES, CONSTRAINTS, CORRECTIONS, DAMPINGS}
use Rattle.run.specs.Proposal as proposal
use Rattle.run.specs.Proposal.{Standing, Proposal, no_drop, unresolved, no_change, ask, proposal_of}
use Rattle.run.specs.Radius.{radius_after}
use Rattle.run.specs.Refusal.{number_of, refusal_at}
use Rattle.run.specs.Residuals.{sum_squared, violation_of, moving_of}
use Rattle.run.specs.Rows.{row_numbers, row_counts}
use Rattle.run.specs.Search.{Found, asks, stops, refuses, follow, search_to, search_of}
use Rattle.run.specs.State.{rejected_for, with_radius, retried, searching, starting, landing, standing_on, over}
use Rattle.run.specs.State.{asking, trying, holding}
use Rattle.run.specs.declared.state.Kind.{Kind}
use Rattle.run.specs.declared.state.Kind.TheVariants as kind
use Rattle.run.specs.declared.state.Rejection.{Rejection}
use Rattle.run.specs.declared.state.Rejection.TheVariants as why
use Rattle.run.specs.declared.state.Search.{Search}
use Rattle.run.specs.declared.state.Sizes.{Sizes}
use Rattle.run.specs.declared.state.State.{State}
use Rattle.run.specs.declared.state.Stop.{Stop}
use Rattle.run.specs.declared.state.Stop.TheVariants as stop
use Rattle.run.specs.program.Area.{lengths_of, StandingWhole}
use Rattle.run.proofs.CheckLaws.{ContentBounds}
use Rattle.run.proofs.PlaceLaws.{all_same}
use Rattle.run.proofs.PhaseLengths.{StartRead, TrialRead, AllRead, Read}
use Rattle.run.proofs.RefusalLaws as yields
use Rattle.run.proofs.RefusalLaws.{Yields, gives, given, Long, TrialSized, ProposalSized, ShiftSized, div_yields}
use Rattle.run.proofs.RefusalLaws.{violation_yields, proposal_yields, judge_yields, linear_yields, shift_yields}
use Rattle.run.proofs.RefusalLaws.{shifted_yields, curvature_yields}
use Rattle.run.proofs.VectorLaws.{length-fill_to}

-- the refusal of an arithmetic number has that number
pub arithmetic_number : (k : ℕ) → T (eqb k 5 || eqb k 6) → number_of (refusal_at k) ≡ k
arithmetic_number k h = by (eqb k 5) (eqb k 6) refl refl h
  where
    by : (a b : Bool) → eqb k 5 ≡ a → eqb k 6 ≡ b → T (a || b) → number_of (refusal_at k) ≡ k
    by true b p q t = rw (eqb-true k 5 p) refl
    by false true p q t = rw (eqb-true k 6 q) refl
    by false false p q t = elim t [ ]

-- what a run of these sizes, with the question of that number open, is left as
pub record Kept (z : Sizes) (question : ℕ) (o : AfterSlots) : Type 0 where
  pub sizes_kept : o.state.sizes ≡ z
  pub few_held : ContentBounds o.state.contents
  pub lengths : lengths_of o.memory ≡ used_in o.state
  pub within : o.state.counts.iterations ≤ z.limit
  pub past_checks : refused_by_check o.event ≡ false
  pub follows : Follows question o.state o.event

-- while a question is open, iterations are within the limit, and below it where one may follow
abbrev pub Room : Kind → State → Type 0
Room kind.Start st = st.counts.iterations ≤ st.sizes.limit
Room kind.Trial st = st.counts.iterations < st.sizes.limit
Room kind.Correction st = st.counts.iterations < st.sizes.limit

-- the variables of a run, and each m that it keeps, within the limits
abbrev pub Few : State → Type 0
Few st = (st.sizes.n ≤ VARIABLES) × ContentBounds st.contents

pub none_held : ContentBounds (holding 0 0)
none_held = record { standing = omega arith; landed = omega arith }

up_to : {k n : ℕ} → k < n → k ≤ n
up_to h = omega (arith, h)

-- ---- lengths

-- the first n scalars of a vector
pub length_cut : (xs : List Float) (n : ℕ) → length xs ≡ 24 → n ≤ 12 → length (take (2 * n) xs) ≡ 2 * n
length_cut xs n e h = length-take-le (2 * n) xs (omega arith)

pub length_shifted : (n : ℕ) (step d : List Float) → length (shifted_step n step d) ≡ length step
unfolding shifted_step
length_shifted n step d = length-fill_to step 0 _ n

pub length_filter : (filter : List Float) (f theta : Scalar) (count : ℕ) → length filter ≡ 4 * count
    → length (filter_with filter f theta) ≡ 4 * (count + 1)
unfolding filter_with
length_filter filter f theta count e = length-append filter (pair_numbers f theta) ∙ omega arith

pub length_curvature : (st : State) (w : Memory) → length w.curvature ≡ (numbers_in st).curvature
    → length (curvature_of st w) ≡ (numbers_in st).curvature
length_curvature st w e = by st.search.plain
  where
    by : (b : Bool) → length (pick b (zeros (numbers_in st).curvature) w.curvature) ≡ (numbers_in st).curvature
    by true = length-replicate (numbers_in st).curvature zero64
    by false = e

-- ---- how a call ends

module _ (st : State) (w : Memory) (m : st.counts.iterations ≤ st.sizes.limit)
    (e : length w.standing ≡ (numbers_in st).standing) where
  alone : lengths_of (only_standing w) ≡ used_in (over st)
  alone =
      all_same {x = lengths_of (only_standing w)} {y = used_in (over st)}
      (record {
        standing = e;
        landed = refl;
        asked = refl;
        standing-rows = refl;
        landed-rows = refl;
        step = refl;
        multipliers = refl;
        curvature = refl;
        filter = refl;
      })

  pub finish_kept : (s : Stop) → Kept st.sizes st.counts.question (finish st w s)
  finish_kept s = record {
    sizes_kept = refl;
    few_held = none_held;
    lengths = alone;
    within = m;
    past_checks = refl;
    follows = refl;
  }

  pub refuse_kept : (k : ℕ) → T (eqb k 5 || eqb k 6) → Kept st.sizes st.counts.question (refuse st w k)
  refuse_kept k h =
      record {
        sizes_kept = refl;
        few_held = none_held;
        lengths = alone;
        within = m;
        past_checks = rw numbered (lt-leb k 4 (above (eqb k 5) (eqb k 6) refl refl h));
        follows = (rw numbered h, refl);
      }
    where
      numbered : number_of (refusal_at k) ≡ k
      numbered = arithmetic_number k h

      above : (a b : Bool) → eqb k 5 ≡ a → eqb k 6 ≡ b → T (a || b) → 4 < k
      above true b p q h = omega (arith, eqb-true k 5 p)
      above false true p q h = omega (arith, eqb-true k 6 q)
      above false false p q h = absurd h

  -- what may be refused, and what follows it
  or_refuse_kept : {A : Type 0} {P : A → Type 0} (x : Res A) (next : A → AfterSlots) → Yields P x
      → ((a : A) → P a → Kept st.sizes st.counts.question (next a))
      → Kept st.sizes st.counts.question (or_refuse st w x next)
  or_refuse_kept (ok a) next (gives p) h = h a p
  or_refuse_kept (refused k) next (yields.refuses p) h = refuse_kept k p

either_kept : (z : Sizes) (question : ℕ) (b : Bool) (o o' : AfterSlots) → Kept z question o → Kept z question o'
    → Kept z question (pick b o o')
either_kept z question true o o' h k = h
either_kept z question false o o' h k = k

-- ---- the search

-- the lists of a trial are vectors, and refusals are by 5 or 6 only
abbrev FoundSized : Found → Type 0
FoundSized (asks x t) = TrialSized t
FoundSized (stops x s) = Unit
FoundSized (refuses x k) = T (eqb k 5 || eqb k 6)

damped_sized : (on : Search → Found) → ((y : Search) → FoundSized (on y)) → (x : Search)
    → FoundSized (damped on (λ y s. stops y s) x)
damped_sized on h x = by (is_finite (grown x).mu)
  where
    by : (b : Bool) → FoundSized (pick b (on (grown x)) (stops (grown x) (stop.Damped x.rejected)))
    by true = h (grown x)
    by false = tt

follow_sized : (on : Search → Found) → ((y : Search) → FoundSized (on y)) → (c : ℕ) (max : Scalar) (x : Search)
    (p : Res Proposal) → Yields ProposalSized p → FoundSized (follow on c max x p)
follow_sized on h c max x (refused k) (yields.refuses p) = p
follow_sized on h c max x (ok (ask t)) (gives p) = p
follow_sized on h c max x (ok no_change) (gives p) = tt
follow_sized on h c max x (ok (no_drop r)) (gives p) = tt
follow_sized on h c max x (ok unresolved) (gives p) =
    damped_sized on h (rejected_for (with_radius x max) why.Unresolved)
follow_sized on h c max x (ok proposal.not_positive) (gives p) = damped_sized on h (rejected_for x why.NotPositive)

search_sized : (t : ℕ) (S : Standing) (max : Scalar) (x : Search) → FoundSized (search_to t S max x)
unfolding search_to
search_sized zero S max x = tt
search_sized (suc t) S max x =
    follow_sized (λ y. search_to t S max y) (λ y. search_sized t S max y) S.e.constraints.count max x
    (proposal_of S x.mu x.radius) (proposal_yields S x.mu x.radius)

left_kept : (st : State) (w : Memory) → Few st → st.counts.iterations ≤ st.sizes.limit
    → StandingWhole (numbers_in st) w → (f : Found) → FoundSized f
    → Kept st.sizes st.counts.question (left_at st w f)
unfolding left_at
left_kept st w few m t (asks x y) h =
    record {
      sizes_kept = refl;
      few_held = record { standing = few.1.standing; landed = omega arith };
      lengths =
          all_same {x = lengths_of (with_trial st w y.next y.delta y.lambda)}
          {y = used_in (asking (trying st x y) kind.Trial 0)}
          (record {
            standing = t.standing;
            landed = refl;
            asked = length_cut y.next st.sizes.n h.next_size few.0;
            standing-rows = t.standing-rows;
            landed-rows = refl;
            step = length_cut y.delta st.sizes.n h.delta_size few.0;
            multipliers = length_cut y.lambda st.contents.standing_m h.lambda_size few.1.standing;
            curvature = t.curvature;
            filter = t.filter;
          });
      within = m;
      past_checks = refl;
      follows = (refl, refl);
    }
left_kept st w few m t (stops x s) h = finish_kept (searching st x) w m t.standing s
left_kept st w few m t (refuses x k) h = refuse_kept (searching st x) w m t.standing k h

module _ (st : State) (w : Memory) (few : Few st) (m : st.counts.iterations ≤ st.sizes.limit)
    (t : StandingWhole (numbers_in st) w) where
  pub search_kept : Kept st.sizes st.counts.question (search st w)
  unfolding search search_of
  search_kept =
      or_refuse_kept st w m t.standing (violation_of (standing_at st w).constraints) _
      (violation_yields (standing_at st w).constraints)
      (λ theta u.
      left_kept st w few m t (search_of (standing_of st w theta) st.max_step st.search)
      (search_sized DAMPINGS (standing_of st w theta) st.max_step st.search))

  pub iterate_kept : Kept st.sizes st.counts.question (iterate st w)
  unfolding iterate
  iterate_kept =
      either_kept st.sizes st.counts.question (leb st.sizes.limit st.counts.iterations) _ _
      (finish_kept st w m t.standing stop.Budget)
      search_kept

-- ---- a step turned down

module _ (st : State) (w : Memory) (few : Few st) (m : st.counts.iterations ≤ st.sizes.limit)
    (t : StandingWhole (numbers_in st) w) where
  grow_kept : Kept st.sizes st.counts.question (grow st w)
  unfolding grow
  grow_kept =
      let x = grown st.search in
      either_kept st.sizes st.counts.question (is_finite x.mu) _ _ (search_kept (searching st x) w few m t)
      (finish_kept (searching st x) w m t.standing (stop.Damped st.search.rejected))

module _ (st : State) (w : Memory) (few : Few st) (m : st.counts.iterations ≤ st.sizes.limit)
    (t : StandingWhole (numbers_in st) w) where
  pub turn_down_kept : (r : Rejection) → Kept st.sizes st.counts.question (turn_down st w r)
  unfolding turn_down
  turn_down_kept r =
      let x = rejected_for st.search r in
      or_refuse_kept (searching st x) w m t.standing (div_of st.trial.tried (degenerate four64)) _
      (div_yields st.trial.tried (degenerate four64))
      (λ q u. grow_kept (searching st (with_radius x (sharpen q))) w few m t)

  not_lower_kept : Kept st.sizes st.counts.question (not_lower st w)
  unfolding not_lower
  not_lower_kept =
      either_kept st.sizes st.counts.question
      (not st.search.plain && learned_of st.sizes.n w.curvature) _ _
      (search_kept (searching st (retried (rejected_for st.search why.NotLower))) w few m t)
      (turn_down_kept why.NotLower)

-- ---- a step taken

-- the landed point stands, with one pair more in the filter
pub taken_whole :
    (st : State) (w : Memory) (length mu radius : Scalar) {b : List Float} (f theta : Scalar) →
    AllRead (numbers_in st) w → Long (numbers_in st).curvature b →
    StandingWhole (numbers_in (standing_on st length mu radius)) (with_taken w b (filter_with w.filter f theta))
taken_whole st w length mu radius f theta t long =
    record {
      standing = t.landed_whole.landed;
      standing-rows = t.landed_whole.landed-rows;
      curvature = long;
      filter = length_filter w.filter f theta st.counts.iterations t.standing_whole.filter;
    }

module _ (st : State) (w : Memory) (t : AllRead (numbers_in st) w) where
  -- the curvature learned from it
  learned_yields :
      Yields (Long (numbers_in st).curvature)
      (update_curvature st.sizes.n (curvature_of st w) w.step (standing_at st w) (landed_at st w) w.multipliers)
  learned_yields =
      curvature_yields (numbers_in st).curvature st.sizes.n (curvature_of st w) w.step (standing_at st w)
      (landed_at st w) w.multipliers (length_curvature st w t.standing_whole.curvature)

  pub learned_length : {b : List Float}
      → update_curvature st.sizes.n (curvature_of st w) w.step (standing_at st w) (landed_at st w) w.multipliers
      ≡ ok b
      → Long (numbers_in st).curvature b
  learned_length e = given e learned_yields

module _ (st : State) (w : Memory) (few : Few st) (b : st.counts.iterations < st.sizes.limit)
    (t : AllRead (numbers_in st) w) where
  take_kept : (theta length : Scalar) → Kept st.sizes st.counts.question (run.take st w theta length)
  unfolding run.take
  take_kept theta length =
      let e = t.standing_whole.standing in
      or_refuse_kept st w (up_to b) e (linear_of st w theta) _ (linear_yields st w theta)
      (λ linear u.
      or_refuse_kept st w (up_to b) e (div_of st.search.mu (degenerate three64)) _
      (div_yields st.search.mu (degenerate three64))
      (λ third v.
      or_refuse_kept st w (up_to b) e
      (update_curvature st.sizes.n (curvature_of st w) w.step (standing_at st w) (landed_at st w) w.multipliers) _
      (learned_yields st w t)
      (λ learned long.
      let mu = shrunk st.search.mu third in
      let radius = radius_after length st.search.radius st.max_step linear in
      let f = sum_squared (standing_at st w).sum in
      iterate_kept (standing_on st length mu radius) (with_taken w learned (filter_with w.filter f theta))
      (few.0, record { standing = few.1.landed; landed = few.1.landed }) (omega (arith, b))
      (taken_whole st w length mu radius f theta t long))))

  -- ---- the judgement

  decide_kept : (theta : Scalar) (j : Judged) → Kept st.sizes st.counts.question (decide st w theta j)
  unfolding decide
  decide_kept theta j =
      either_kept st.sizes st.counts.question
      (st.search.first && j.undecided && was_taken st.last && not j.contracting) _ _
      (finish_kept st w (up_to b) t.standing_whole.standing stop.Undecided)
      (either_kept st.sizes st.counts.question
      (j.lower || (st.search.first && j.undecided && j.contracting)) _ _
      (take_kept theta j.length) (not_lower_kept st w few (up_to b) t.standing_whole))

  pub judge_kept : (theta : Scalar) → Kept st.sizes st.counts.question (judge st w theta)
  unfolding judge
  judge_kept theta =
      or_refuse_kept st w (up_to b) t.standing_whole.standing
      (judge_of st.sizes.n (standing_at st w) (landed_at st w) theta w.filter (pairs_in st) st.last w.step) _
      (judge_yields st.sizes.n (standing_at st w) (landed_at st w) theta w.filter (pairs_in st) st.last
      w.step)
      (λ j u. decide_kept theta j)

  -- ---- corrections

  correct_kept : (theta : Scalar) → Kept st.sizes st.counts.question (correct st w theta)
  unfolding correct
  correct_kept theta =
      or_refuse_kept st w (up_to b) t.standing_whole.standing
      (shift_from st.moving (landed_at st w).constraints w.landed) _
      (shifted_yields st.moving (landed_at st w).constraints w.landed)
      (λ s. elim s as (λ x. ShiftSized x → Kept st.sizes st.counts.question (elim x as (λ y. AfterSlots) [
        | to next ↦ question st (with_asked st w next) kind.Correction st.counts.corrections
        | stay ↦ judge st w theta
      ])) [
        | to next ↦ λ h.
            record {
              sizes_kept = refl;
              few_held = few.1;
              lengths =
                  all_same {x = lengths_of (with_asked st w next)}
                  {y = used_in (asking st kind.Correction st.counts.corrections)}
                  (record {
                    standing = t.standing_whole.standing;
                    landed = t.landed_whole.landed;
                    asked = length_cut next st.sizes.n h few.0;
                    standing-rows = t.standing_whole.standing-rows;
                    landed-rows = t.landed_whole.landed-rows;
                    step = t.trial_whole.step;
                    multipliers = t.trial_whole.multipliers;
                    curvature = t.standing_whole.curvature;
                    filter = t.standing_whole.filter;
                  });
              within = up_to b;
              past_checks = refl;
              follows = (refl, refl);
            }
        | stay ↦ λ u. judge_kept theta
      ])

-- ---- where a point lands

-- the asked point landed: with rows of their whole length, and a step
pub landed_read : (st : State) (w : Memory) (m n : ℕ) (rows step : List Float) → TrialRead (numbers_in st) w
    → length rows ≡ row_numbers (row_counts st.sizes m) → length step ≡ (numbers_in st).step
    → AllRead (numbers_in (landing st m n)) (with_landed w rows step)
landed_read st w m n rows step t many long =
    record {
      standing_whole = record {
        standing = t.standing_whole.standing;
        standing-rows = t.standing_whole.standing-rows;
        curvature = t.standing_whole.curvature;
        filter = t.standing_whole.filter;
      };
      trial_whole = record {
        asked = t.trial_whole.asked;
        step = long;
        multipliers = t.trial_whole.multipliers;
      };
      landed_whole = record { landed = t.trial_whole.asked; landed-rows = many };
    }

-- a start's answer
pub start_whole : (st : State) (w : Memory) (m : ℕ) (moving : List Bool) (rows : List Float)
    → length w.standing ≡ (numbers_in st).standing → length rows ≡ row_numbers (row_counts st.sizes m)
    → StandingWhole (numbers_in (starting st m moving)) (with_start st w rows)
start_whole st w m moving rows e many =
    record {
      standing = e;
      standing-rows = many;
      curvature = length-replicate (numbers_in st).curvature zero64;
      filter = length-replicate (numbers_in st).filter zero64;
    }

module _ (st : State) (w : Memory) (few : Few st) (m : ℕ) (fits : m ≤ CONSTRAINTS) (rows : List Float)
    (many : length rows ≡ row_numbers (row_counts st.sizes m)) where
  landed_few : (n : ℕ) → Few (landing st m n)
  landed_few n = (few.0, record { standing = few.1.standing; landed = fits })

  land_trial_kept : st.counts.iterations < st.sizes.limit → TrialRead (numbers_in st) w → (theta : Scalar)
      → Kept st.sizes st.counts.question (land_trial st w m rows theta)
  unfolding land_trial
  land_trial_kept b t theta =
      let s = landing st m 0 in
      let v = with_landed w rows w.step in
      let u = landed_read st w m 0 rows w.step t many t.trial_whole.step in
      or_refuse_kept s v (up_to b) u.standing_whole.standing (violation_of (landed_at s v).constraints) _
      (violation_yields (landed_at s v).constraints)
      (λ new p.
      either_kept st.sizes st.counts.question (definitely_greater new theta) _ _
      (correct_kept s v (landed_few 0) b u theta) (judge_kept s v (landed_few 0) b u theta))

  keep_kept : st.counts.iterations < st.sizes.limit → TrialRead (numbers_in st) w → (theta : Scalar)
      → Kept st.sizes st.counts.question (keep st w m rows theta)
  unfolding keep
  keep_kept b t theta =
      or_refuse_kept st w (up_to b) t.standing_whole.standing (shift_of st.moving (landed_at st w).constraints) _
      (shift_yields st.moving (landed_at st w).constraints)
      (λ d p.
      let k = st.counts.corrections + 1 in
      let s = landing st m k in
      let step = shifted_step st.sizes.n w.step d in
      let v = with_landed w rows step in
      let u = landed_read st w m k rows step t many
      (length_shifted st.sizes.n w.step d ∙ t.trial_whole.step) in
      either_kept st.sizes st.counts.question (leb CORRECTIONS k) _ _
      (judge_kept s v (landed_few k) b u theta) (correct_kept s v (landed_few k) b u theta))

  land_correction_kept : st.counts.iterations < st.sizes.limit → AllRead (numbers_in st) w → (theta : Scalar)
      → Kept st.sizes st.counts.question (land_correction st w m rows theta)
  unfolding land_correction
  land_correction_kept b t theta =
      let e = t.standing_whole.standing in
      or_refuse_kept st w (up_to b) e (violation_of (rows_at st m rows).constraints) _
      (violation_yields (rows_at st m rows).constraints)
      (λ new p.
      or_refuse_kept st w (up_to b) e (violation_of (landed_at st w).constraints) _
      (violation_yields (landed_at st w).constraints)
      (λ old q. either_kept st.sizes st.counts.question (definitely_less new old) _ _
      (keep_kept b (record { standing_whole = t.standing_whole; trial_whole = t.trial_whole }) theta)
      (judge_kept st w few b t theta)))

  -- ---- an accepted answer

  start_kept : st.counts.iterations ≤ st.sizes.limit → StartRead (numbers_in st) w
      → Kept st.sizes st.counts.question (started st w m rows)
  unfolding started
  start_kept i t =
      let moving = moving_of st.sizes.n (rows_at st m rows) in
      iterate_kept (starting st m moving) (with_start st w rows)
      (few.0, record { standing = fits; landed = omega arith }) i
      (start_whole st w m moving rows t.standing many)

  pub answered_kept : (k : Kind) → Room k st → Read k (numbers_in st) w
      → Kept st.sizes st.counts.question (answered k st w m rows)
  answered_kept kind.Start i t = start_kept i t
  answered_kept kind.Trial b t =
      or_refuse_kept st w (up_to b) t.standing_whole.standing (violation_of (standing_at st w).constraints) _
      (violation_yields (standing_at st w).constraints) (λ theta p. land_trial_kept b t theta)
  answered_kept kind.Correction b t =
      or_refuse_kept st w (up_to b) t.standing_whole.standing (violation_of (standing_at st w).constraints) _
      (violation_yields (standing_at st w).constraints) (λ theta p. land_correction_kept b t theta)

pub answered_none_kept : (st : State) (w : Memory) → Few st → (k : Kind) → Room k st
    → Read k (numbers_in st) w → Kept st.sizes st.counts.question (answered_none k st w)
answered_none_kept st w few kind.Start m t = finish_kept st w m t.standing stop.Infeasible
answered_none_kept st w few kind.Trial b t =
    turn_down_kept st w few (up_to b) t.standing_whole why.Infeasible
answered_none_kept st w few kind.Correction b t =
    or_refuse_kept st w (up_to b) t.standing_whole.standing (violation_of (standing_at st w).constraints) _
    (violation_yields (standing_at st w).constraints) (λ theta p. judge_kept st w few b t theta)
