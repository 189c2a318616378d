-- An open question and its answer: what the invariant says of a start, a trial or a correction is what the run between
-- two questions begins with.
use Rattle.std.specs.Prelude.{Some}
use Prim.Native.Nat.{ℕ, ◌+◌, ◌*◌, ◌≤◌, ◌<◌, zero-le}
use mathlib.Core.Bool.{false, cond}
use mathlib.Core.Logic.{inl, inr}
use mathlib.Core.Path.{◌≡◌, refl, sym, ap, ◌∙◌, subst}
use mathlib.Core.List.{List, [], ◌∷◌}
use native.Mathlib.Omega.{arith}
use borrow.Author.Tests.{eq-eqb, ne_eqb}
use lib.Dec.{eqb}
use lib.Ieee.{Float}
use lib.ListN.{length, length-replicate}
use Rattle.interval.specs.Scalar.{zero64}
use Rattle.run.specs.Residuals.{violation_of, moving_of}
use Rattle.run.specs.Area.{numbers_in, used_in, Memory, memory_of, with_landed, with_start}
use Rattle.run.specs.Endings.{AfterSlots}
use Rattle.run.specs.Area.{rows_at, standing_at}
use Rattle.run.specs.State.{landing, starting}
use Rattle.run.specs.Answered.{started, answered, answered_none}
use Rattle.run.specs.Decide.{turn_down}
use Rattle.run.specs.Demand.{
  same,
  Floats,
  Call,
  Run,
  History,
  In,
  Answer,
  AnsweredRows,
  has_rows,
  Fitting,
  Claim,
  rows_by,
  entered,
  is_refused,
  is_arithmetic,
}
use Rattle.run.specs.Demand as demand
use Rattle.run.specs.declared.state.Event.{Event}
use Rattle.run.specs.declared.state.Event.TheVariants as event
use Rattle.run.specs.declared.state.Kind.{Kind}
use Rattle.run.specs.declared.state.Kind.TheVariants as kind
use Rattle.run.specs.declared.state.Rejection.TheVariants as why
use Rattle.run.specs.declared.state.Sizes.{Sizes}
use Rattle.run.specs.declared.state.State.{State}
use Rattle.run.specs.declared.state.Stop.TheVariants as stop
use Rattle.run.specs.program.Area.{lengths_of}
use Rattle.run.proofs.RefusalLaws.{violation_yields}
use Rattle.run.proofs.demand3.ExactLaws.{Good, ExactLaws}
use Rattle.run.proofs.demand3.Invariant.{
  FittingRows,
  standing_answer,
  landed_answer,
  Stands,
  Sound,
  Tried,
  Corrected,
  Started,
  Phased,
  Inv,
  CallContext,
  unmoved,
  Consistent,
  played_to,
  After,
}
use Rattle.run.proofs.demand3.Endings.{pairs_rows, or_refuse_after, finish_counts}
use Rattle.run.proofs.demand3.Iterate.{iterate_after, turn_down_after}
use Rattle.run.proofs.demand3.Decide.{Landing, judge_after}
use Rattle.run.proofs.demand3.Corrected.{land_trial_after, land_correction_after}

-- ---- the call that answers

-- rows that a check let pass
pub record CheckedRows (z : Sizes) (x : Answer) : Type 0 where
  pub fitting : Fitting z x
  pub good : Good z x

rowed : {z : Sizes} {x : AnsweredRows} {a : Answer} → CheckedRows z a → x ≡ has_rows a → FittingRows z x a
rowed p e = record { given_is = e; fitting = p.fitting; good = p.good }

-- the rows entered for the open question
abbrev with_rows : History → Answer → ℕ → AnsweredRows
with_rows h x k = cond (eqb k h.asked) (has_rows x) (h.rows k)

enters_rows :
    (h : History) (x : Answer) (f : Floats x.numbers) (a : Event) →
    is_refused a ≡ false → rows_by h (demand.rows same x.m x.numbers f) a ≡ with_rows h x
enters_rows h x f (event.Question k t s) e = refl
enters_rows h x f (event.Finish s i t n) e = refl
enters_rows h x f (event.Refused k) e = absurd (let z : ◌≡◌ {A = ℕ} 0 1 = cc in omega arith)

abbrev rows_context :
    (h : History) → Run → (x : Answer) → Floats x.numbers →
    (before : List ℕ) → h.stood ≡ h.standing ∷ before → h.changes ≡ length before → CallContext
rows_context h r x f before s c = record {
  history = h;
  call = demand.rows same x.m x.numbers f;
  run = r;
  rows = with_rows h x;
  before = before;
  enters = enters_rows h x f;
  stood_is = s;
  changes_are = c;
}

abbrev none_context :
    (h : History) → Run →
    (before : List ℕ) → h.stood ≡ h.standing ∷ before → h.changes ≡ length before → CallContext
none_context h r before s c = record {
  history = h;
  call = demand.none same;
  run = r;
  rows = h.rows;
  before = before;
  enters = λ a e. refl;
  stood_is = s;
  changes_are = c;
}

asked_rows : (h : History) (x : Answer) (k : ℕ) → k ≡ h.asked → with_rows h x k ≡ has_rows x
asked_rows h x k e = rw (eq-eqb k h.asked e)

other_rows : (h : History) (x : Answer) (k : ℕ) → k < h.asked → h.rows k ≡ with_rows h x k
other_rows h x k l = let d : eqb k h.asked ≡ false = ne_eqb k h.asked (λ e. omega arith) in rw d

-- ---- a trial or correction is open

module _ (S : CallContext) (since top : ℕ) (sound : Sound S.run.state) (T : Tried S.history S.run since top)
    (same-before : T.before ≡ S.before) (agree : (e : ℕ) → e < top → S.history.rows e ≡ S.rows e)
    (asked : top ≤ S.run.state.counts.question)
    (point : (memory_of S.run.state S.run.area).standing ≡ S.history.points S.history.standing) where
  st : State
  st = S.run.state

  w : Memory
  w = memory_of S.run.state S.run.area

  stood_below : (e : ℕ) → In e (st.counts.standing ∷ T.before) → e < top
  unfolding st
  stood_below e i =
      T.below e
      (subst (In e) (sym T.stood_is) (subst (λ (s : ℕ). In e (s ∷ T.before)) (sym T.standing_is) i))

  tried_stands : Stands st.sizes S.rows st.counts.standing T.before (standing_answer st w) w.filter
  unfolding st w In
  tried_stands =
      let s = T.stands in
      let k = S.history.standing in
      let rowed : FittingRows st.sizes (S.rows k) (standing_answer st w) =
      subst (λ (g : AnsweredRows). FittingRows st.sizes g (standing_answer st w))
      (agree k (T.below k (subst (In k) (sym T.stood_is) (inl refl)))) s.rowed in
      record {
        rowed = subst (λ (n : ℕ). FittingRows st.sizes (S.rows n) (standing_answer st w)) T.standing_is rowed;
        pairs =
            pairs_rows st.sizes S.history.rows S.rows w.filter T.before
            (λ e i. agree e (T.below e (subst (In e) (sym T.stood_is) (inr i)))) s.pairs;
        long = s.long;
      }

  tried_consistent : Consistent S st S.history.mu w
  unfolding st w
  tried_consistent =
      record {
        before = T.before;
        way = unmoved (sym T.standing_is) same-before refl;
        before_many = T.before_many;
        below = λ e i. let h = stood_below e i in omega arith;
        stands = tried_stands;
        point = point ∙ ap S.history.points T.standing_is;
        sizes-fit = sound.sizes-fit;
        within = sound.within;
        few_asked = sound.few_asked;
        few_corrections = sound.few_corrections;
      }

  -- the answered point has landed
  landed_landing :
      (n : ℕ) →
      n ≤ 4 →
      (x : Answer) →
      CheckedRows st.sizes x →
      S.rows st.counts.question ≡ has_rows x →
      (step : List Float) → Landing S (landing st x.m n) (with_landed w x.numbers step) since
  unfolding st w tried_consistent
  landed_landing n few x passed is step =
      let v = tried_consistent in
      record {
        consistent = record {
          before = v.before;
          way = v.way;
          before_many = v.before_many;
          below = v.below;
          stands = v.stands;
          point = v.point;
          sizes-fit = v.sizes-fit;
          within = v.within;
          few_asked = v.few_asked;
          few_corrections = few;
        };
        still = sym T.standing_is;
        still_before = same-before;
        newer = λ e i. let h = T.below e i in omega arith;
        landed_asked = omega arith;
        landed-rows = rowed passed is;
        landed_point = T.asked_point;
        count_bounds = record {
          growths = T.count_bounds.growths;
          growth = T.count_bounds.growth;
          fresh = T.count_bounds.fresh;
          turned = T.count_bounds.turned;
          few = T.count_bounds.few;
        };
        below_limit = T.below_limit;
        mu_same = refl;
        last_same = refl;
      }

  -- the point that landed before stays
  stayed_landing :
      st.counts.landed ≡ top →
      FittingRows st.sizes (S.rows st.counts.landed) (landed_answer st w) →
      w.landed ≡ S.history.points st.counts.landed → Landing S st w since
  unfolding st w tried_consistent
  stayed_landing e rows landed =
      record {
        consistent = tried_consistent;
        still = sym T.standing_is;
        still_before = same-before;
        newer = λ d i. let h = T.below d i in omega arith;
        landed_asked = omega arith;
        landed-rows = rows;
        landed_point = landed;
        count_bounds = T.count_bounds;
        below_limit = T.below_limit;
        mu_same = refl;
        last_same = refl;
      }

-- ---- the answers

-- a trial answered none never lands: it is turned down
none_turned_down : (st : State) (w : Memory) → answered_none kind.Trial st w ≡ turn_down st w why.Infeasible
none_turned_down st w = refl

-- what a call from the run r leaves, unless its answer is 5 or 6, where the lists of its memory have the numbers in use
abbrev pub Keeps : History → Run → Call → AfterSlots → Type 0
Keeps h r c o =
    let p = played_to o in
    let h' = entered h r c p in
    is_arithmetic o.event ≡ false → lengths_of o.memory ≡ used_in o.state →
    Inv r.state.sizes h' p.run × Claim r.state.sizes h h' r p

module _ (law : ExactLaws) (h : History) (r : Run) (sound : Sound r.state)
    (counted : r.state.counts.iterations ≡ h.changes)
    (point : (memory_of r.state r.area).standing ≡ h.points h.standing) where
  many : (before : List ℕ) → length before ≡ r.state.counts.iterations → h.changes ≡ length before
  many before e = sym (e ∙ counted)

  abbrev own : Memory
  own = memory_of r.state r.area

  -- the call, while a trial or correction is open
  abbrev rows_tried : {since top : ℕ} → Tried h r since top → (x : Answer) → Floats x.numbers → CallContext
  rows_tried T x f = rows_context h r x f T.before T.stood_is (many T.before T.before_many)

  abbrev none_tried : {since top : ℕ} → Tried h r since top → CallContext
  none_tried T = none_context h r T.before T.stood_is (many T.before T.before_many)

  trial_rows :
      (T : Tried h r 1 r.state.counts.question) (x : Answer) (f : Floats x.numbers) →
      CheckedRows r.state.sizes x →
      After (rows_tried T x f) r.state.sizes (answered kind.Trial r.state own x.m x.numbers)
  unfolding st w
  trial_rows T x f passed =
      let S = rows_tried T x f in
      let q = r.state.counts.question in
      let asked = T.asked_is in
      let agree : (e : ℕ) → e < q → h.rows e ≡ with_rows h x e = λ e l. other_rows h x e (omega arith) in
      let L : Landing S (landing r.state x.m 0) (with_landed own x.numbers own.step) 1 =
      landed_landing S 1 q sound T refl agree (omega arith) point 0 zero-le x passed
      (asked_rows h x q (sym asked)) own.step in
      or_refuse_after S r.state.sizes r.state own (violation_of (standing_at r.state own).constraints) _
      (violation_yields (standing_at r.state own).constraints)
      (λ theta e u. land_trial_after law S r.state own x.m x.numbers L theta e)

  correction_rows :
      (C : Corrected h r) (x : Answer) (f : Floats x.numbers) →
      CheckedRows r.state.sizes x →
      After (rows_tried C.tried x f) r.state.sizes (answered kind.Correction r.state own x.m x.numbers)
  unfolding st w
  correction_rows C x f passed =
      let T = C.tried in
      let S = rows_tried T x f in
      let q = r.state.counts.question in
      let n = r.state.counts.corrections in
      let k = r.state.counts.landed in
      let asked = T.asked_is in
      let under = C.landed_below in
      let few = C.few in
      let agree : (e : ℕ) → e < k → h.rows e ≡ with_rows h x e = λ e l. other_rows h x e (omega arith) in
      let two : 2 + n ≡ 1 + (n + 1) = omega arith in
      let rows : FittingRows r.state.sizes (with_rows h x k) (landed_answer r.state own) =
      subst (λ (g : AnsweredRows). FittingRows r.state.sizes g (landed_answer r.state own))
      (other_rows h x k (omega arith)) C.landed-rows in
      let L : Landing S r.state own (2 + n) =
      stayed_landing S (2 + n) k sound T refl agree (omega arith) point refl rows C.landed_point in
      let land : (step : List Float)
      → Landing S (landing r.state x.m (n + 1)) (with_landed own x.numbers step) (1 + (n + 1)) = λ step.
      subst (Landing S (landing r.state x.m (n + 1)) (with_landed own x.numbers step)) two
      (landed_landing S (2 + n) k sound T refl agree (omega arith) point (n + 1) (omega arith) x passed
      (asked_rows h x q (sym asked)) step) in
      or_refuse_after S r.state.sizes r.state own (violation_of (standing_at r.state own).constraints) _
      (violation_yields (standing_at r.state own).constraints)
      (λ theta e u. land_correction_after law S r.state own x.m x.numbers L land few theta e)

  trial_none :
      (T : Tried h r 1 r.state.counts.question) →
      After (none_tried T) r.state.sizes (answered_none kind.Trial r.state own)
  unfolding st w
  trial_none T =
      let S = none_tried T in
      let v : Consistent S r.state h.mu own =
      tried_consistent S 1 r.state.counts.question sound T refl (λ e h. refl) (omega arith) point in
      let f = T.count_bounds.few in
      subst (After S r.state.sizes) (sym (none_turned_down r.state own))
      (turn_down_after S r.state own why.Infeasible h.mu v
      (record {
        growths = T.count_bounds.growths;
        growth = T.count_bounds.growth;
        fresh = T.count_bounds.fresh;
        turned = T.count_bounds.turned;
        few = omega arith;
      })
      T.below_limit)

  correction_none :
      (C : Corrected h r) →
      After (none_tried C.tried) r.state.sizes (answered_none kind.Correction r.state own)
  unfolding st w
  correction_none C =
      let T = C.tried in
      let S = none_tried T in
      let n = r.state.counts.corrections in
      let k = r.state.counts.landed in
      let under = C.landed_below in
      let few = C.few in
      let L : Landing S r.state own (2 + n) =
      stayed_landing S (2 + n) k sound T refl (λ e h. refl) (omega arith) point refl C.landed-rows
      C.landed_point in
      or_refuse_after S r.state.sizes r.state own (violation_of (standing_at r.state own).constraints) _
      (violation_yields (standing_at r.state own).constraints)
      (λ theta e u. judge_after law S r.state own (2 + n) L (omega arith) theta e)

  start_stood : Started h r → h.stood ≡ h.standing ∷ []
  start_stood s = s.stood_is ∙ ap (λ (n : ℕ). n ∷ []) (sym s.standing_is)

  start_same : (s : Started h r) → r.state.counts.standing ≡ h.standing
  start_same s = s.own_standing ∙ sym s.standing_is

  start_point : Started h r → own.standing ≡ h.points r.state.counts.standing
  start_point s = point ∙ ap h.points (sym (start_same s))

  -- the start point stands, with its rows
  start_rows :
      (s : Started h r) (x : Answer) (f : Floats x.numbers) →
      CheckedRows r.state.sizes x →
      After (rows_context h r x f [] (start_stood s) s.changes_are) r.state.sizes
      (answered kind.Start r.state own x.m x.numbers)
  unfolding started In
  start_rows s x f passed =
      let S = rows_context h r x f [] (start_stood s) s.changes_are in
      let z = r.state.sizes in
      let none : 4 * r.state.counts.iterations ≡ 0 = omega (arith, counted, s.changes_are) in
      let is : with_rows h x r.state.counts.standing ≡ has_rows x =
      asked_rows h x r.state.counts.standing (s.own_standing ∙ sym s.asked_is) in
      iterate_after S (starting r.state x.m (moving_of z.n (rows_at r.state x.m x.numbers)))
      (with_start r.state own x.numbers) h.mu
      (record {
        before = [];
        way = unmoved (start_same s) refl refl;
        before_many = sym (counted ∙ s.changes_are);
        below = λ e i. only e i;
        stands = record {
          rowed = rowed passed is;
          pairs = tt;
          long = length-replicate (numbers_in r.state).filter zero64 ∙ none;
        };
        point = start_point s;
        sizes-fit = sound.sizes-fit;
        within = sound.within;
        few_asked = sound.few_asked;
        few_corrections = sound.few_corrections;
      })
      s.count_bounds
    where
      only : (e : ℕ) → In e (r.state.counts.standing ∷ []) → e ≤ r.state.counts.question
      only e (inl q) = let h = s.own_standing in omega arith
      only e (inr i) = absurd i

  start_none :
      (s : Started h r) →
      After (none_context h r [] (start_stood s) s.changes_are) r.state.sizes
      (answered_none kind.Start r.state own)
  start_none s =
      finish_counts (none_context h r [] (start_stood s) s.changes_are) r.state own stop.Infeasible h.mu
      (record {
        before = [];
        way = unmoved (start_same s) refl refl;
        before_many = sym (counted ∙ s.changes_are);
        point = start_point s;
        sound = record {
          sizes-fit = sound.sizes-fit;
          contents-fit = refl;
          within = sound.within;
          few_turned = sound.few_turned;
          few_asked = sound.few_asked;
          few_corrections = sound.few_corrections;
          phase-fits = refl;
        };
      })

  -- what the call leaves, whichever question was open
  pub rows_kept :
      (k : Kind) →
      Phased h r (Some k) →
      (x : Answer) (f : Floats x.numbers) →
      CheckedRows r.state.sizes x →
      Keeps h r (demand.rows same x.m x.numbers f)
      (answered k r.state (memory_of r.state r.area) x.m x.numbers)
  rows_kept kind.Start p x f passed = start_rows p x f passed
  rows_kept kind.Trial p x f passed = trial_rows p x f passed
  rows_kept kind.Correction p x f passed = correction_rows p x f passed

  pub none_kept :
      (k : Kind) →
      Phased h r (Some k) →
      Keeps h r (demand.none same) (answered_none k r.state (memory_of r.state r.area))
  none_kept kind.Start p = start_none p
  none_kept kind.Trial p = trial_none p
  none_kept kind.Correction p = correction_none p
