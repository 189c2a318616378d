-- The parts of a step taken and of its judgement, from the slots of an area; what a call that lands a point or takes a
-- step hands on; and the numbers of a run, which stay small.
use mathlib.Core.Bool.{Bool, true, false, ◌||◌}
use mathlib.Core.Path.{◌≡◌, refl, sym, ap, ◌∙◌}
use mathlib.Core.List.{List, ◌++◌, map}
use Prim.Native.Nat.{ℕ, ◌+◌, ◌-◌, ◌*◌, ◌≤◌}
use native.Mathlib.Omega.{arith}
use lib.Dec.{lit<}
use lib.Ieee.{Float}
use lib.ListN.{length, take, drop, length-map}
use Rattle.interval.specs.declared.Scalar.{Scalar}
use Rattle.interval.specs.Result.{Res, ok, refused}
use Rattle.interval.specs.Scalar.{two64, zero_s, degenerate, pick, sub_of, mul_of, upper}
use Rattle.interval.specs.Scalar.{definitely_greater, definitely_less}
use Rattle.interval.specs.Scaling.{three64, four64, is_positive}
use Rattle.run.specs.Area.{Memory, HasRoom, indices, places_of, part_of, numbers_in, pairs_in}
use Rattle.run.specs.Area.{with_landed, with_taken, standing_counts, landed_counts, standing_at, landed_at, curvature_of}
use Rattle.run.specs.Corrected.{Shift, shift_of, shift_from, shifted_step}
use Rattle.run.specs.Curvature.{update_curvature}
use Rattle.run.specs.Decide.{held, linear_of}
use Rattle.run.specs.Filter.{filter_with}
use Rattle.run.specs.Judgement.{Judged, judge_of}
use Rattle.run.specs.Limits.{VARIABLES, CONSTRAINTS}
use Rattle.run.specs.Radius.{radius_after}
use Rattle.run.specs.Residuals.{sum_squared, violation_of}
use Rattle.run.specs.Rows.{row_counts, row_numbers, constraints_of, sum_of, evaluation_of}
use Rattle.run.specs.State.{landing, standing_on}
use Rattle.run.specs.declared.rows.RowCounts.{RowCounts}
use Rattle.run.specs.declared.state.Sizes.{Sizes}
use Rattle.run.specs.declared.state.State.{State}
use Rattle.run.specs.program.Area.{Holds, Working, ReadAll, StandingKnown, ViolationsKnown, TrialWhole}
use Rattle.run.specs.program.Area.{LandedWhole, written}
use Rattle.run.specs.program.Endings.{Bounded, Underway}
use Rattle.run.specs.program.Proposal.{rows_of, curvature_for}
use Rattle.run.proofs.AreaLaws.{laid_of, holds_of, wrote_over, part_back}
use Rattle.run.proofs.EndingLaws.{cut_length, pick_yes, pick_no}
use Rattle.run.proofs.IterateLaws.{curvature_for_read}
use Rattle.run.proofs.LengthsKept.{length_shifted, landed_read, taken_whole}
use Rattle.run.proofs.MemoryLaws.{read_landed, read_standing_rows, read_landed_rows, read_step, read_multipliers}
use Rattle.run.proofs.MemoryLaws.{read_filter, measures, compares}
use Rattle.run.proofs.PhaseLengths.{AllRead}
use Rattle.run.proofs.PlaceLaws.{lent, part_inside, curvature_inside}

-- ---- what is read of an area

-- as many numbers as are read
pub step_part : (z : Sizes) (a : List Float) → z.n ≤ VARIABLES → HasRoom z a →
    length (part_of a (places_of z).step (2 * z.n)) ≡ 2 * z.n
step_part z a few room =
    cut_length (2 * z.n) (places_of z).step a
    (part_inside z a room (2 * z.n) indices.step (lit< tt) (omega (arith, few)))

pub curvature_length : (st : State) (a : List Float) → st.sizes.n ≤ VARIABLES → HasRoom st.sizes a →
    length (curvature_for st.sizes st.search.plain a) ≡ (numbers_in st).curvature
curvature_length st a few room =
    cut_length (numbers_in st).curvature _ a
    (curvature_inside st.sizes st.search.plain a st.sizes.n room few)

-- the sum of the standing point's rows
pub sum_read :
    (st : State) {w : Memory} {a : List Float} {c : RowCounts} {xs : List Float} {f : Scalar} → Holds st.sizes w a →
    length w.standing_rows ≡ (numbers_in st).standing_rows → c ≡ standing_counts st → xs ≡ rows_of st.sizes c a →
    f ≡ sum_squared (sum_of c xs) → f ≡ sum_squared (standing_at st w).sum
sum_read st h long ec ex e = rw (ex ∙ read_standing_rows h (long ∙ ap row_numbers (sym ec)), ec) at e

-- the shift of the landed point, by the rows and the point that are read of their slots
pub shift_read :
    (st : State) {w : Memory} {a : List Float} {c : RowCounts} {xs : List Float} {x : Res (List Float)} →
    Holds st.sizes w a → LandedWhole (numbers_in st) w → c ≡ landed_counts st →
    xs ≡ part_of a (places_of st.sizes).landed_rows (row_numbers c) → x ≡ shift_of st.moving (constraints_of c xs) →
    x ≡ shift_of st.moving (landed_at st w).constraints
shift_read st h t ec ex e = rw (ex ∙ read_landed_rows h (t.landed-rows ∙ ap row_numbers (sym ec)), ec) at e

pub shifted_read :
    (st : State) {w : Memory} {a : List Float} {theta : Scalar} {v : Res Scalar} {c d : RowCounts}
    {xs landed : List Float} {x : Res Shift} → ViolationsKnown st theta v w a →
    c ≡ landed_counts st → d ≡ landed_counts st → xs ≡ part_of a (places_of st.sizes).landed_rows (row_numbers d) →
    landed ≡ part_of a (places_of st.sizes).landed (2 * st.sizes.n) →
    x ≡ shift_from st.moving (constraints_of c xs) landed →
    x ≡ shift_from st.moving (landed_at st w).constraints w.landed
shifted_read st t ec ed ex el e =
    let h = t.from-standing.within.holds in
    rw (
      ex ∙ read_landed_rows h (t.landed_whole.landed-rows ∙ ap row_numbers (sym ed)),
      el ∙ read_landed h t.landed_whole.landed,
      ec,
    ) at e

-- marks that are read as they stand
pub marks_count : (m : List Bool) {n : ℕ} → length (map (λ (v : Bool). v) m) ≡ n → length m ≡ n
marks_count m e = sym (length-map m (λ (v : Bool). v)) ∙ e

-- ---- the numbers of a run stay small

pub stood :
    {st : State} (length mu radius : Scalar) → Underway st → is_positive mu ≡ true →
    Bounded 2147483648 (standing_on st length mu radius)
stood length mu radius u e =
    let b = u.bounded in
    record {
      few_variables = b.few_variables;
      few_standing = b.few_landed;
      few_landed = b.few_landed;
      few_sums = b.few_sums;
      few_iterations = b.few_iterations;
      within = omega (arith, u.below);
      few_corrections = b.few_corrections;
      few_questions = b.few_questions;
      few_turned = omega (arith, b.few_turned);
      damping = e;
    }

pub landed_again : {st : State} (m corrections : ℕ) → m ≤ CONSTRAINTS → corrections ≤ 5 → Underway st
    → Underway (landing st m corrections)
landed_again m corrections few l u =
    let b = u.bounded in
    record {
      bounded = record {
        few_variables = b.few_variables;
        few_standing = b.few_standing;
        few_landed = few;
        few_sums = b.few_sums;
        few_iterations = b.few_iterations;
        within = b.within;
        few_corrections = l;
        few_questions = b.few_questions;
        few_turned = b.few_turned;
        damping = b.damping;
      };
      below = u.below;
    }

-- ---- a step taken

pub held_is :
    (old predicted new : Scalar) {f four p g three q : Scalar} {r : Bool} → f ≡ sub_of old new →
    four ≡ degenerate four64 → p ≡ mul_of f four → g ≡ sub_of old predicted → three ≡ degenerate three64 →
    q ≡ mul_of g three → r ≡ definitely_greater p q → r ≡ held old predicted new
held_is old predicted new {f} {four} {p} {g} {three} {q} ef e4 ep eg e3 eq er =
    let x : p ≡ mul_of (sub_of old new) (degenerate four64) = ep ∙ ap (λ (y : Scalar). mul_of y four) ef
    ∙ ap (λ (y : Scalar). mul_of (sub_of old new) y) e4 in
    let z : q ≡ mul_of (sub_of old predicted) (degenerate three64) = eq ∙ ap (λ (y : Scalar). mul_of y three) eg
    ∙ ap (λ (y : Scalar). mul_of (sub_of old predicted) y) e3 in
    er ∙ ap (λ (y : Scalar). definitely_greater y q) x
    ∙ ap (λ (y : Scalar). definitely_greater (mul_of (sub_of old new) (degenerate four64)) y) z

-- the violation decides where there was one
module _ (st : State) (w : Memory) (theta : Scalar) {v : Res Scalar} (e : v ≡ violation_of (landed_at st w).constraints)
    (b : definitely_greater theta zero_s ≡ true) where
  pub linear_known : {new : Scalar} → v ≡ ok new → ok (held theta st.trial.predicted new) ≡ linear_of st w theta
  linear_known q = rw (b, ← e, q)

  pub linear_refused : {k : ℕ} → v ≡ refused k → refused k ≡ linear_of st w theta
  linear_refused q = rw (b, ← e, q)

module _ (length radius max : Scalar) {reach : Scalar} (e : reach ≡ mul_of (degenerate two64) length) where
  pub reach_far :
      (linear : Bool) {b : Bool} → b ≡ definitely_greater reach radius → b ≡ true →
      (pick (linear || definitely_less reach max) (upper reach) max) ≡ radius_after length radius max linear
  reach_far linear q t =
      ap (λ (x : Scalar). pick (linear || definitely_less x max) (upper x) max) e
      ∙ sym (pick_yes (pick (linear || definitely_less (mul_of (degenerate two64) length) max)
      (upper (mul_of (degenerate two64) length)) max) radius (ap (λ (x : Scalar). definitely_greater x radius) (sym e)
      ∙ sym q ∙ t))

  pub reach_near :
      (linear : Bool) {b : Bool} → b ≡ definitely_greater reach radius → b ≡ false →
      radius ≡ radius_after length radius max linear
  reach_near linear q t =
      sym (pick_no (pick (linear || definitely_less (mul_of (degenerate two64) length) max)
      (upper (mul_of (degenerate two64) length)) max) radius (ap (λ (x : Scalar). definitely_greater x radius) (sym e)
      ∙ sym q ∙ t))

-- the curvature after a step, from the slots
pub learned_is :
    (st : State) {w : Memory} {a : List Float} {c d : RowCounts} {b s x y l : List Float} {r : Res (List Float)} →
    st.sizes.n ≤ VARIABLES → ReadAll st w a → c ≡ standing_counts st → d ≡ landed_counts st →
    b ≡ curvature_for st.sizes st.search.plain a → s ≡ part_of a (places_of st.sizes).step (2 * st.sizes.n) →
    x ≡ rows_of st.sizes c a → y ≡ part_of a (places_of st.sizes).landed_rows (row_numbers d) →
    l ≡ part_of a (places_of st.sizes).multipliers (2 * c.m) →
    r ≡ update_curvature c.n b s (evaluation_of c x) (evaluation_of d y) l →
    r ≡ update_curvature st.sizes.n (curvature_of st w) w.step (standing_at st w) (landed_at st w) w.multipliers
learned_is st few t ec ed eb es ex ey el e =
    let h = t.holds in
    rw (
      eb ∙ curvature_for_read st h few t.standing_whole.curvature,
      es ∙ read_step h t.trial_whole.step,
      ex ∙ read_standing_rows h (t.standing_whole.standing-rows ∙ ap row_numbers (sym ec)),
      ey ∙ read_landed_rows h (t.landed_whole.landed-rows ∙ ap row_numbers (sym ed)),
      el ∙ read_multipliers h (t.trial_whole.multipliers ∙ ap (λ (k : RowCounts). 2 * k.m) (sym ec)),
      ec,
      ed,
    ) at e

-- how a step fares, from the slots
pub judged_is :
    (st : State) {w : Memory} {a : List Float} {theta : Scalar} {v : Res Scalar} {c d : RowCounts} {pairs : ℕ}
    {x y f s : List Float} {r : Res Judged} → ViolationsKnown st theta v w a →
    c ≡ standing_counts st → d ≡ landed_counts st → pairs ≡ pairs_in st → x ≡ rows_of st.sizes c a →
    y ≡ part_of a (places_of st.sizes).landed_rows (row_numbers d) →
    f ≡ part_of a (places_of st.sizes).filter (4 * pairs) →
    s ≡ part_of a (places_of st.sizes).step (2 * st.sizes.n) →
    (v ≡ violation_of (constraints_of d y) →
    r ≡ judge_of c.n (evaluation_of c x) (evaluation_of d y) theta f pairs st.last s) →
    r
    ≡ judge_of st.sizes.n (standing_at st w) (landed_at st w) theta w.filter (pairs_in st) st.last w.step
judged_is st t ec ed ep ex ey ef es k =
    let u = t.from-standing in
    let h = u.within.holds in
    (rw (
      ex ∙ read_standing_rows h (u.standing_whole.standing-rows ∙ ap row_numbers (sym ec)),
      ey ∙ read_landed_rows h (t.landed_whole.landed-rows ∙ ap row_numbers (sym ed)),
      ef ∙ read_filter h (u.standing_whole.filter ∙ ap (λ (n : ℕ). 4 * n) (sym ep)),
      es ∙ read_step h t.trial_whole.step,
      ec,
      ed,
      ep,
    ) at k) t.landed_is

-- ---- what a call hands on

-- all that is read, with the violations
module _ (st : State) {w : Memory} {a : List Float} {theta : Scalar} {v : Res Scalar}
    (t : ViolationsKnown st theta v w a) where
  pub all_read : AllRead (numbers_in st) w
  all_read = record {
    standing_whole = t.from-standing.standing_whole;
    trial_whole = t.trial_whole;
    landed_whole = t.landed_whole;
  }

  pub read_all : ReadAll st w a
  read_all = record {
    holds = t.from-standing.within.holds;
    standing_whole = t.from-standing.standing_whole;
    trial_whole = t.trial_whole;
    landed_whole = t.landed_whole;
  }

  -- once the landed point stands
  pub taken_known :
      (span mu radius f : Scalar) {b d : List Float} → length b ≡ (numbers_in st).curvature →
      Holds st.sizes (with_taken w b (filter_with w.filter f theta)) d →
      StandingKnown (standing_on st span mu radius) v (with_taken w b (filter_with w.filter f theta)) d
  taken_known span mu radius f {b} long h =
      let m = t.from-standing.within.at_most in
      let whole = taken_whole st w span mu radius f theta all_read long in
      measures (standing_on st span mu radius)
      (record {
        holds = h;
        at_most = record {
          standing = m.landed;
          landed = m.landed;
          asked = m.asked;
          standing-rows = m.landed-rows;
          landed-rows = m.landed-rows;
          step = m.step;
          multipliers = omega arith;
          curvature = omega (arith, long);
          filter = omega (arith, whole.filter);
        };
      })
      whole t.landed_is

-- where the asked point landed, with m constraint rows, rows of their whole length and a step
module _ (st : State) (m corrections : ℕ) (rows step : List Float)
    (many : length rows ≡ row_numbers (row_counts st.sizes m))
    (long : length step ≡ (numbers_in st).step) {w : Memory} {a b : List Float} where
  pub lands : Working st w a → Holds st.sizes (with_landed w rows step) b
      → Working (landing st m corrections) (with_landed w rows step) b
  lands u h =
      let t = u.at_most in
      record {
        holds = h;
        at_most = record {
          standing = t.standing;
          landed = t.asked;
          asked = t.asked;
          standing-rows = t.standing-rows;
          landed-rows = omega (arith, many);
          step = omega (arith, long);
          multipliers = t.multipliers;
          curvature = t.curvature;
          filter = t.filter;
        };
      }

  pub landed_known : {theta : Scalar} {v : Res Scalar} → StandingKnown st (ok theta) w a → TrialWhole (numbers_in st) w →
      Holds st.sizes (with_landed w rows step) b → v ≡ violation_of (constraints_of (row_counts st.sizes m) rows) →
      ViolationsKnown (landing st m corrections) theta v (with_landed w rows step) b
  landed_known s t h e =
      let r = landed_read st w m corrections rows step
      (record { standing_whole = s.standing_whole; trial_whole = t }) many long in
      compares (landing st m corrections) (lands s.within h) r.standing_whole r.trial_whole
      r.landed_whole s.standing_is e

-- the step with a shift added, in its slot
abbrev pub with_step : Memory → List Float → Memory
with_step w step = record {
  standing = w.standing;
  landed = w.landed;
  asked = w.asked;
  standing_rows = w.standing_rows;
  landed_rows = w.landed_rows;
  step = step;
  multipliers = w.multipliers;
  curvature = w.curvature;
  filter = w.filter;
}

module _ (st : State) (d : List Float) {w : Memory} (t : TrialWhole (numbers_in st) w) where
  pub step_length : length (shifted_step st.sizes.n w.step d) ≡ (numbers_in st).step
  step_length = length_shifted st.sizes.n w.step d ∙ t.step

  pub step_whole : TrialWhole (numbers_in st) (with_step w (shifted_step st.sizes.n w.step d))
  step_whole = record { asked = t.asked; step = step_length; multipliers = t.multipliers }

  pub stepped : {a s : List Float} {at : ℕ} → st.sizes.n ≤ VARIABLES → Working st w a →
      at ≡ (places_of st.sizes).step →
      s ≡ shifted_step st.sizes.n (take (at + 2 * st.sizes.n - at) (drop at a)) d →
      Working st (with_step w (shifted_step st.sizes.n w.step d))
      (take at a ++ (s ++ drop (at + 2 * st.sizes.n - at) (drop at a)))
  stepped {a} {s} {at} few u ea e =
      let z = st.sizes in
      let n = at + 2 * z.n - at in
      let en : n ≡ 2 * z.n = omega arith in
      let m = u.at_most in
      let f = u.holds.fits in
      let x : List Float = shifted_step z.n w.step d in
      let long = step_length in
      let q : s ≡ x =
      e ∙ ap (λ (y : List Float). shifted_step z.n y d) (lent a ea refl ∙ read_step u.holds t.step) in
      let b : take at a ++ (s ++ drop n (drop at a)) ≡ written a (places_of z).step x =
      ap (λ (y : List Float). take at a ++ (y ++ drop n (drop at a))) q
      ∙ part_back a x at n (long ∙ sym en)
      ∙ ap (λ (place : ℕ). written a place x) ea in
      record {
        holds =
            holds_of z (with_step w x)
            (record {
              standing = f.standing;
              landed = f.landed;
              asked = f.asked;
              standing-rows = f.standing-rows;
              landed-rows = f.landed-rows;
              step = omega (arith, long, few);
              multipliers = f.multipliers;
              curvature = f.curvature;
              filter = f.filter;
            })
            (wrote_over (laid_of z w u.holds) indices.step (lit< tt) w.step refl x
            (omega (arith, long, t.step)) (omega (arith, long, few)) b);
        at_most = record {
          standing = m.standing;
          landed = m.landed;
          asked = m.asked;
          standing-rows = m.standing-rows;
          landed-rows = m.landed-rows;
          step = omega (arith, long);
          multipliers = m.multipliers;
          curvature = m.curvature;
          filter = m.filter;
        };
      }
