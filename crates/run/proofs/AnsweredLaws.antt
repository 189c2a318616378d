-- What follows an answer, part by part: each result that is known, or refused, leaves what the definition says.
use Rattle.std.specs.Prelude.{Some}
use mathlib.Core.Bool.{Bool, true, false, not, ◌&&◌, ◌||◌}
use mathlib.Core.Path.{◌≡◌, refl, sym, ap, ap₂, subst, ◌∙◌}
use mathlib.Core.List.{List}
use Prim.Native.Nat.{ℕ, ◌+◌, ◌≤◌}
use native.Mathlib.Omega.{arith}
use borrow.Author.Tests.{ltb-true, ltb-false, le-leb, lt-leb}
use lib.Dec.{leb, ltb}
use lib.Ieee.{Float}
use lib.ListN.{length}
use Rattle.interval.specs.declared.Scalar.{Scalar}
use Rattle.interval.specs.Result.{Res, ok, refused}
use Rattle.interval.specs.Scalar.{degenerate, pick, div_of, definitely_greater, definitely_less}
use Rattle.interval.specs.Scaling.{three64}
use Rattle.linear.specs.Results.{bind}
use Rattle.run.specs.Area.{Memory, with_start, with_asked, with_landed, with_taken, pairs_in, used_in}
use Rattle.run.specs.Checks.{phase_fits}
use Rattle.run.specs.Limits.{CONSTRAINTS, CORRECTIONS}
use Rattle.run.specs.Corrected.{Shift, to, stay, shift_of, shift_from, shifted_step}
use Rattle.run.specs.Curvature.{update_curvature}
use Rattle.run.specs.Judgement.{Judged, judge_of}
use Rattle.run.specs.program.Area.{Holds, Uses, Working, StandingKnown}
use Rattle.run.specs.Rows.{row_numbers, row_counts}
use Rattle.run.specs.Residuals.{moving_of, sum_squared, violation_of}
use Rattle.run.specs.Endings.{AfterSlots, finish, refuse, question, or_refuse}
use Rattle.run.specs.program.Endings.{Leaves, Bounded, Underway}
use Rattle.run.specs.Area.{curvature_of, standing_at, landed_at, rows_at}
use Rattle.run.specs.Decide.{linear_of, not_lower, take, was_taken, decide, judge}
use Rattle.run.specs.Damping.{shrunk}
use Rattle.run.specs.Radius.{radius_after}
use Rattle.run.specs.Filter.{filter_with}
use Rattle.run.specs.State.{standing_on, starting, landing}
use Rattle.run.specs.Iterate.{iterate}
use Rattle.run.specs.program.Decide.{taken_with}
use Rattle.run.specs.Corrected.{correct, land_trial, keep, land_correction}
use Rattle.run.specs.program.Corrected.{nearer_of}
use Rattle.run.specs.Answered.{started, answered, answered_none}
use Rattle.run.specs.declared.state.Kind.{Kind}
use Rattle.run.specs.declared.state.Kind.TheVariants as kind
use Rattle.run.specs.declared.state.Returned.{Returned}
use Rattle.run.specs.declared.state.State.{State}
use Rattle.run.specs.declared.state.Stop.TheVariants as stop
use Rattle.run.proofs.CheckLaws.{both}
use Rattle.run.proofs.LengthsKept.{start_whole}
use Rattle.run.proofs.MemoryLaws.{measures, seeks_as}
use Rattle.run.proofs.PhaseLengths.{standing_length, lengths_at_most}
use Rattle.run.proofs.EndingLaws.{or_next, or_refused, when, unless}

-- ---- a step taken

-- once it is known whether the constraints came as near as their linearization said
abbrev pub taken_as : State → Memory → Scalar → Scalar → Bool → AfterSlots
taken_as st w theta length linear =
    or_refuse st w (div_of st.search.mu (degenerate three64))
    (λ third. taken_with st w theta length (shrunk st.search.mu third)
    (radius_after length st.search.radius st.max_step linear))

-- the landed point stands, with the curvature b
abbrev pub stands : State → Memory → Scalar → Scalar → Scalar → Scalar → List Float → AfterSlots
stands st w theta length mu radius b =
    iterate (standing_on st length mu radius)
    (with_taken w b (filter_with w.filter (sum_squared (standing_at st w).sum) theta))

module _ (st : State) (w : Memory) (theta length : Scalar) {o : Returned} {a : List Float} where
  pub take_known :
      {linear : Bool} → linear_of st w theta ≡ ok linear → Leaves (taken_as st w theta length linear) o a →
      Leaves (take st w theta length) o a
  unfolding take
  take_known e l = or_next st w (λ linear. taken_as st w theta length linear) e l

  pub take_refused :
      {k : ℕ} → linear_of st w theta ≡ refused k → Leaves (refuse st w k) o a → Leaves (take st w theta length) o a
  unfolding take
  take_refused e l = or_refused st w (λ linear. taken_as st w theta length linear) e l

  module _ (linear : Bool) where
    pub third_known :
        {third mu radius : Scalar} → div_of st.search.mu (degenerate three64) ≡ ok third →
        mu ≡ shrunk st.search.mu third → radius ≡ radius_after length st.search.radius st.max_step linear →
        Leaves (taken_with st w theta length mu radius) o a → Leaves (taken_as st w theta length linear) o a
    third_known {third} {mu} {radius} e m r l =
        or_next st w (λ q. taken_with st w theta length (shrunk st.search.mu q)
        (radius_after length st.search.radius st.max_step linear)) e
        (subst (λ (x : Scalar). Leaves
        (taken_with st w theta length x (radius_after length st.search.radius st.max_step linear)) o a) m
        (subst (λ (y : Scalar). Leaves (taken_with st w theta length mu y) o a) r l))

    pub third_refused :
        {k : ℕ} → div_of st.search.mu (degenerate three64) ≡ refused k → Leaves (refuse st w k) o a →
        Leaves (taken_as st w theta length linear) o a
    third_refused e l =
        or_refused st w (λ q. taken_with st w theta length (shrunk st.search.mu q)
        (radius_after length st.search.radius st.max_step linear)) e l

  module _ (mu radius : Scalar) where
    pub learned_known :
        {b : List Float} →
        update_curvature st.sizes.n (curvature_of st w) w.step (standing_at st w) (landed_at st w) w.multipliers
        ≡ ok b →
        Leaves (stands st w theta length mu radius b) o a → Leaves (taken_with st w theta length mu radius) o a
    learned_known e l = or_next st w (stands st w theta length mu radius) e l

    pub learned_refused :
        {k : ℕ} →
        update_curvature st.sizes.n (curvature_of st w) w.step (standing_at st w) (landed_at st w) w.multipliers
        ≡ refused k →
        Leaves (refuse st w k) o a → Leaves (taken_with st w theta length mu radius) o a
    learned_refused e l = or_refused st w (stands st w theta length mu radius) e l

    pub stands_on :
        (b : List Float) {t : State} {f : Scalar} {v : Res Scalar} {c : List Float} →
        t ≡ standing_on st length mu radius →
        f ≡ sum_squared (standing_at st w).sum →
        StandingKnown (standing_on st length mu radius) v
        (with_taken w b (filter_with w.filter f theta)) c →
        ((x : Memory) → StandingKnown t v x c → Leaves (iterate t x) o a) →
        Leaves (stands st w theta length mu radius b) o a
    stands_on b {t} {f} {v} {c} e q h l =
        let next = standing_on st length mu radius in
        let after : Scalar → Memory = λ x. with_taken w b (filter_with w.filter x theta) in
        let x = after (sum_squared (standing_at st w).sum) in
        subst (λ (y : State). Leaves (iterate y x) o a) e
        (l x (seeks_as e (subst (λ (y : Scalar). StandingKnown next v (after y) c) q h)))

-- ---- the judgement

abbrev taken_or : State → Memory → Scalar → Judged → AfterSlots
taken_or st w theta j =
    pick (j.lower || (st.search.first && j.undecided && j.contracting)) (take st w theta j.length)
    (not_lower st w)

-- a shift by the moving marks
shift_is :
    (st : State) (w : Memory) {m : List Bool} {r : Res Shift} → m ≡ st.moving →
    r ≡ shift_from m (landed_at st w).constraints w.landed →
    shift_from st.moving (landed_at st w).constraints w.landed ≡ r
shift_is st w em er = sym (er ∙ ap (λ (x : List Bool). shift_from x (landed_at st w).constraints w.landed) em)

shift-of :
    (st : State) (w : Memory) {m : List Bool} {r : Res (List Float)} → m ≡ st.moving →
    r ≡ shift_of m (landed_at st w).constraints → shift_of st.moving (landed_at st w).constraints ≡ r
shift-of st w em er = sym (er ∙ ap (λ (x : List Bool). shift_of x (landed_at st w).constraints) em)

module _ (st : State) (w : Memory) (theta : Scalar) {o : Returned} {a : List Float} where
  pub judge_known :
      {j : Judged} →
      judge_of st.sizes.n (standing_at st w) (landed_at st w) theta w.filter (pairs_in st) st.last w.step
      ≡ ok j →
      Leaves (decide st w theta j) o a → Leaves (judge st w theta) o a
  unfolding judge
  judge_known e l = or_next st w (λ j. decide st w theta j) e l

  pub judge_refused :
      {k : ℕ} →
      judge_of st.sizes.n (standing_at st w) (landed_at st w) theta w.filter (pairs_in st) st.last w.step
      ≡ refused k →
      Leaves (refuse st w k) o a → Leaves (judge st w theta) o a
  unfolding judge
  judge_refused e l = or_refused st w (λ j. decide st w theta j) e l

  module _ (j : Judged) {s : Bool}
      (es : s ≡ (st.search.first && j.undecided && was_taken st.last && not j.contracting)) where
    pub decide_stuck : s ≡ true → Leaves (finish st w stop.Undecided) o a → Leaves (decide st w theta j) o a
    unfolding decide
    decide_stuck e l = when (finish st w stop.Undecided) (taken_or st w theta j) (sym es ∙ e) l

    module _ (f : s ≡ false) {b : Bool} (eb : b ≡ (j.lower || (st.search.first && j.undecided && j.contracting)))
      where
        pub decide_better : b ≡ true → Leaves (take st w theta j.length) o a → Leaves (decide st w theta j) o a
        unfolding decide
        decide_better e l =
            unless (finish st w stop.Undecided) (taken_or st w theta j) (sym es ∙ f)
            (when (take st w theta j.length) (not_lower st w) (sym eb ∙ e) l)

        pub decide_not : b ≡ false → Leaves (not_lower st w) o a → Leaves (decide st w theta j) o a
        unfolding decide
        decide_not e l =
            unless (finish st w stop.Undecided) (taken_or st w theta j) (sym es ∙ f)
            (unless (take st w theta j.length) (not_lower st w) (sym eb ∙ e) l)

  -- ---- corrections

  module _ {m : List Bool} {r : Res Shift} (em : m ≡ st.moving)
      (er : r ≡ shift_from m (landed_at st w).constraints w.landed) where
    pub correct_asks :
        {next : List Float} → r ≡ ok (to next) →
        Leaves (question st (with_asked st w next) kind.Correction st.counts.corrections) o a →
        Leaves (correct st w theta) o a
    unfolding correct
    correct_asks e l = rw (shift_is st w em er ∙ e) l

    pub correct_stays : r ≡ ok stay → Leaves (judge st w theta) o a → Leaves (correct st w theta) o a
    unfolding correct
    correct_stays e l = rw (shift_is st w em er ∙ e) l

    pub correct_refused : {k : ℕ} → r ≡ refused k → Leaves (refuse st w k) o a → Leaves (correct st w theta) o a
    unfolding correct
    correct_refused e l = rw (shift_is st w em er ∙ e) l

abbrev pub landed_with : Memory → List Float → Memory
landed_with w rows = with_landed w rows w.step

-- a correction kept, once its shift is known
abbrev pub kept_by : State → Memory → ℕ → List Float → Scalar → List Float → AfterSlots
kept_by st w m rows theta d =
    let t = landing st m (st.counts.corrections + 1) in
    let v = with_landed w rows (shifted_step st.sizes.n w.step d) in
    pick (leb CORRECTIONS t.counts.corrections) (judge t v theta) (correct t v theta)

abbrev rose_or : State → Memory → Scalar → Scalar → AfterSlots
rose_or st v theta new = pick (definitely_greater new theta) (correct st v theta) (judge st v theta)

module _ (st : State) (w : Memory) (m : ℕ) (rows : List Float) (theta : Scalar) {o : Returned} {a : List Float} where
  -- a trial's
  module _ {t : State} (et : t ≡ landing st m 0) where
    pub trial_known :
        {new : Scalar} {b : Bool} → violation_of (rows_at st m rows).constraints ≡ ok new →
        b ≡ definitely_greater new theta →
        Leaves (pick b (correct t (landed_with w rows) theta) (judge t (landed_with w rows) theta)) o a →
        Leaves (land_trial st w m rows theta) o a
    unfolding land_trial
    trial_known {new} {b} e eb l =
        or_next (landing st m 0) (landed_with w rows) (λ x. rose_or (landing st m 0) (landed_with w rows) theta x) e
        (subst (λ (x : State). Leaves (rose_or x (landed_with w rows) theta new) o a) et
        (subst (λ (x : Bool). Leaves
        (pick x (correct t (landed_with w rows) theta) (judge t (landed_with w rows) theta)) o a) eb l))

    pub trial_refused :
        {k : ℕ} → violation_of (rows_at st m rows).constraints ≡ refused k →
        Leaves (refuse t (landed_with w rows) k) o a → Leaves (land_trial st w m rows theta) o a
    unfolding land_trial
    trial_refused {k} e l =
        or_refused (landing st m 0) (landed_with w rows) (λ x. rose_or (landing st m 0) (landed_with w rows) theta x) e
        (subst (λ (x : State). Leaves (refuse x (landed_with w rows) k) o a) et l)

  -- a correction's
  module _ {marks : List Bool} {r : Res (List Float)} (em : marks ≡ st.moving)
      (er : r ≡ shift_of marks (landed_at st w).constraints) where
    pub keep_known :
        {d : List Float} → r ≡ ok d → Leaves (kept_by st w m rows theta d) o a → Leaves (keep st w m rows theta) o a
    unfolding keep
    keep_known e l = or_next st w (λ d. kept_by st w m rows theta d) (shift-of st w em er ∙ e) l

    pub keep_refused : {k : ℕ} → r ≡ refused k → Leaves (refuse st w k) o a → Leaves (keep st w m rows theta) o a
    unfolding keep
    keep_refused e l = or_refused st w (λ d. kept_by st w m rows theta d) (shift-of st w em er ∙ e) l

  pub correction_by :
      Leaves
      (or_refuse st w (nearer_of (violation_of (rows_at st m rows).constraints) (violation_of (landed_at st w).constraints))
      (λ kept. pick kept (keep st w m rows theta) (judge st w theta))) o a →
      Leaves (land_correction st w m rows theta) o a
  unfolding land_correction bind
  correction_by l = go (violation_of (rows_at st m rows).constraints) (violation_of (landed_at st w).constraints) l
    where
      go :
          (x y : Res Scalar) →
          Leaves
          (or_refuse st w (bind x (λ new. bind y (λ old. ok (definitely_less new old))))
          (λ kept. pick kept (keep st w m rows theta) (judge st w theta))) o a →
          Leaves
          (or_refuse st w x
          (λ new. or_refuse st w y
          (λ old. pick (definitely_less new old) (keep st w m rows theta) (judge st w theta)))) o a
      go (ok new) (ok old) l = l
      go (ok new) (refused k) l = l
      go (refused k) y l = l

-- by the violations as they were worked out
pub nearer_read : {x y v u : Res Scalar} {r : Res Bool} → r ≡ nearer_of x y → x ≡ v → y ≡ u → nearer_of v u ≡ r
nearer_read e p q = sym (e ∙ ap₂ nearer_of p q)

-- fewer than four, or four at least
turned_about : {A : Type 0} (n : ℕ) (x y : A) → pick (ltb n 4) x y ≡ pick (leb 4 n) y x
turned_about {A} n x y = go (ltb n 4) refl
  where
    go : (b : Bool) → ltb n 4 ≡ b → pick (ltb n 4) x y ≡ pick (leb 4 n) y x
    go true e = rw (e, lt-leb 4 n (ltb-true n 4 e))
    go false e = rw (e, le-leb 4 n (ltb-false n 4 e))

pub kept_known :
    (st : State) (w : Memory) (m : ℕ) (rows : List Float) (theta : Scalar) (d : List Float) {t : State} {o : Returned}
    {a : List Float} →
    t ≡ landing st m (st.counts.corrections + 1) →
    Leaves (pick (ltb (st.counts.corrections + 1) 4)
    (correct t (with_landed w rows (shifted_step st.sizes.n w.step d)) theta)
    (judge t (with_landed w rows (shifted_step st.sizes.n w.step d)) theta)) o a →
    Leaves (kept_by st w m rows theta d) o a
kept_known st w m rows theta d {t} {o} {a} e l =
    let v : Memory = with_landed w rows (shifted_step st.sizes.n w.step d) in
    let u : State = landing st m (st.counts.corrections + 1) in
    subst (λ (x : AfterSlots). Leaves x o a) (turned_about (st.counts.corrections + 1) (correct u v theta)
    (judge u v theta))
    (subst (λ (x : State). Leaves (pick (ltb (st.counts.corrections + 1) 4) (correct x v theta) (judge x v theta)) o
    a) e l)

-- ---- an accepted answer

pub started_known :
    (st : State) (w : Memory) (m : ℕ) (rows : List Float) {t : State} {moving : List Bool} {o : Returned}
    {a : List Float} →
    t ≡ starting st m moving → moving ≡ moving_of st.sizes.n (rows_at st m rows) →
    Leaves (iterate t (with_start st w rows)) o a → Leaves (started st w m rows) o a
unfolding started
started_known st w m rows {t} {moving} {o} {a} e q l =
    subst (λ (x : State). Leaves (iterate x (with_start st w rows)) o a) (e ∙ ap (starting st m) q) l

-- between two calls, and with a start's answer
module _ (st : State) {w : Memory} {a : List Float} (u : Uses st.sizes (used_in st) w a) where
  pub works : Working st w a
  works = record { holds = u.holds; at_most = lengths_at_most st w u.lengths }

  pub starts :
      (m : ℕ) (moving : List Bool) {rows b : List Float} {v : Res Scalar} →
      length rows ≡ row_numbers (row_counts st.sizes m) →
      Holds st.sizes (with_start st w rows) b → v ≡ violation_of (rows_at st m rows).constraints →
      StandingKnown (starting st m moving) v (with_start st w rows) b
  starts m moving {rows} many h e =
      let s = start_whole st w m moving rows (standing_length st w u.lengths) many in
      measures (starting st m moving)
      (record {
        holds = h;
        at_most = record {
          standing = omega (arith, s.standing);
          landed = omega arith;
          asked = omega arith;
          standing-rows = omega (arith, s.standing-rows);
          landed-rows = omega arith;
          step = omega arith;
          multipliers = omega arith;
          curvature = omega (arith, s.curvature);
          filter = omega (arith, s.filter);
        };
      })
      s e

pub moved_on : {st : State} {m : ℕ} (moving : List Bool) → m ≤ CONSTRAINTS → Bounded 1073741824 st
    → Bounded 2147483648 (starting st m moving)
moved_on moving h b = record {
  few_variables = b.few_variables;
  few_standing = h;
  few_landed = omega arith;
  few_sums = b.few_sums;
  few_iterations = b.few_iterations;
  within = b.within;
  few_corrections = b.few_corrections;
  few_questions = b.few_questions;
  few_turned = omega (arith, b.few_turned);
  damping = b.damping;
}

module _ {st : State} (b : Bounded 1073741824 st) where
  pub trial_underway : {k : Kind} → k ≡ kind.Trial → phase_fits st (Some k) ≡ true → Underway st
  trial_underway e f =
      let g : phase_fits st (Some kind.Trial) ≡ true = subst (λ (x : Kind). phase_fits st (Some x) ≡ true) e f in
      record { bounded = b; below = ltb-true _ _ (both (ltb st.counts.iterations st.sizes.limit) _ g).0 }

  pub correction_underway : {k : Kind} → k ≡ kind.Correction → phase_fits st (Some k) ≡ true → Underway st
  correction_underway e f =
      let g : phase_fits st (Some kind.Correction) ≡ true = subst (λ (x : Kind). phase_fits st (Some x) ≡ true) e f in
      record { bounded = b; below = ltb-true _ _ (both (ltb st.counts.iterations st.sizes.limit) _ g).0 }

module _ (st : State) (w : Memory) {k k' : Kind} {o : Returned} {a : List Float} (e : k ≡ k') where
  pub answered_as : (m : ℕ) (rows : List Float) → Leaves (answered k' st w m rows) o a
      → Leaves (answered k st w m rows) o a
  answered_as m rows l = subst (λ (x : Kind). Leaves (answered x st w m rows) o a) (sym e) l

  pub none_as : Leaves (answered_none k' st w) o a → Leaves (answered_none k st w) o a
  none_as l = subst (λ (x : Kind). Leaves (answered_none x st w) o a) (sym e) l
