-- A run whose search changes: its numbers stay small, what it reads of the area is the memory's, and what follows more
-- damping is the definition's.
use mathlib.Core.Bool.{Bool, true, false, not, ◌&&◌}
use mathlib.Core.Path.{◌≡◌, refl, sym, ap, subst, ◌∙◌}
use mathlib.Core.List.{List}
use Prim.Native.Nat.{ℕ, ◌+◌, ◌<◌, ◌≤◌}
use native.Mathlib.Omega.{arith}
use lib.Ieee.{Float}
use lib.ListN.{length}
use Rattle.interval.specs.declared.Scalar.{Scalar}
use Rattle.interval.specs.Enclosure.{Fits}
use Rattle.interval.specs.Result.{Res, ok, refused}
use Rattle.interval.specs.Scalar.{pick, is_finite, degenerate, div_of, sharpen}
use Rattle.interval.specs.Scaling.{four64, quadrupled, is_positive}
use Rattle.linear.specs.Flat.{zeros}
use Rattle.run.specs.Area.{Memory, places_of, spare_at, part_of, numbers_in, standing_at, curvature_of}
use Rattle.run.specs.Limits.{VARIABLES}
use Rattle.run.specs.program.Area.{Holds, Limits, StandingKnown}
use Rattle.run.specs.Curvature.{learned_of}
use Rattle.run.specs.Proposal.{Standing}
use Rattle.run.specs.Vectors.{moved_of}
use Rattle.run.specs.program.Proposal.{curvature_for, standing_in, next_in}
use Rattle.run.specs.Residuals.{violation_of}
use Rattle.run.specs.program.Endings.{Leaves, Bounded}
use Rattle.run.specs.State.{searching}
use Rattle.run.specs.Iterate.{standing_of, left_at, search}
use Rattle.run.specs.Endings.{finish, refuse, or_refuse}
use Rattle.run.specs.program.Iterate.{sought_with, sought_of, search_origin}
use Rattle.run.specs.Decide.{grow, turn_down, not_lower}
use Rattle.run.specs.Search.{Found, search_of}
use Rattle.run.specs.State.{rejected_for, with_radius, retried}
use Rattle.run.specs.Damping.{grown, damped}
use Rattle.run.specs.program.Search.{found_result}
use Rattle.run.specs.program.Damping.{goes_on, stops_at}
use Rattle.run.specs.declared.proposal.Origin.{Origin}
use Rattle.run.specs.declared.damping.Damped.{Damped}
use Rattle.run.specs.declared.damping.Damped.TheVariants as d
use Rattle.run.specs.declared.search.Found as declared
use Rattle.run.specs.declared.state.Returned.{Returned}
use Rattle.run.specs.declared.state.Rejection.{Rejection}
use Rattle.run.specs.declared.state.Rejection.TheVariants as why
use Rattle.run.specs.declared.state.Search.{Search}
use Rattle.run.specs.declared.state.Sizes.{Sizes}
use Rattle.run.specs.declared.state.State.{State}
use Rattle.run.specs.declared.state.Stop.{Stop}
use Rattle.run.specs.declared.state.Stop.TheVariants as stop
use Rattle.run.proofs.DampingBounds.{quadrupled_sound}
use Rattle.run.proofs.EndingLaws.{or_next, or_refused, when, unless}
use Rattle.run.proofs.MemoryLaws.{read_standing, read_standing_rows, read_curvature, read_spare}
use Rattle.run.proofs.PlaceLaws.{spare_inside, curvature_fits}
use Rattle.run.proofs.SearchLaws.{damped_ap}

-- another search, with a positive damping
pub searched : {t u : ℕ} {st : State} (x : Search) → Bounded t st → x.turned_down < u → is_positive x.mu ≡ true →
    Bounded u (searching st x)
searched x b l e = record {
  few_variables = b.few_variables;
  few_standing = b.few_standing;
  few_landed = b.few_landed;
  few_sums = b.few_sums;
  few_iterations = b.few_iterations;
  within = b.within;
  few_corrections = b.few_corrections;
  few_questions = b.few_questions;
  few_turned = l;
  damping = e;
}

-- it changes no number in use
pub limits_searched : {st : State} (x : Search) → Limits st → Limits (searching st x)
limits_searched x l =
    record { standing_few = l.standing_few; landed_few = l.landed_few; iterations_fit = l.iterations_fit }

-- what follows more damping, or the stop
abbrev pub after : {A : Type 0} → (Search → A) → (Search → Stop → A) → Damped → A
after on stop_at (d.On y) = on y
after on stop_at (d.Stop y s) = stop_at y s

pub damped-by : {A : Type 0} (on : Search → A) (stop_at : Search → Stop → A) (x : Search) {r : Damped} →
    r ≡ damped goes_on stops_at x → after on stop_at r ≡ damped on stop_at x
damped-by on stop_at x e = ap (after on stop_at) e ∙ damped_ap (after on stop_at) goes_on stops_at x

-- with more damping, which is positive still
pub grown_bounded : {t u : ℕ} {st : State} (y : Search) → Bounded t st → t + 1 < u → Fits st.search.mu →
    d.On y ≡ damped goes_on stops_at st.search → Bounded u (searching st y)
grown_bounded {t} {u} {st} y b l f e = go (is_finite (quadrupled st.search.mu)) refl e
  where
    x : Search
    x = st.search

    go : (k : Bool) → is_finite (quadrupled x.mu) ≡ k →
        d.On y ≡ pick k (d.On (grown x)) (d.Stop (grown x) (stop.Damped x.rejected)) → Bounded u (searching st y)
    go true h q =
        let i : y ≡ grown x = cc in
        subst (λ (z : Search). Bounded u (searching st z)) (cc) (searched (grown x) b (omega (arith, b.few_turned, l))
        (quadrupled_sound x.mu f b.damping h))
    go false h q = let z : ◌≡◌ {A = ℕ} 0 1 = cc in absurd (omega arith)

-- the curvature that is read, from its slot or of the last numbers
pub curvature_for_read : (st : State) {w : Memory} {a : List Float} → Holds st.sizes w a → st.sizes.n ≤ VARIABLES
    → length w.curvature ≡ (numbers_in st).curvature
    → curvature_for st.sizes st.search.plain a ≡ curvature_of st w
curvature_for_read st {w} {a} h few e = by st.search.plain
  where
    z : Sizes
    z = st.sizes

    by : (plain : Bool) → part_of a (pick plain (spare_at z) (places_of z).curvature) (numbers_in st).curvature
        ≡ pick plain (zeros (numbers_in st).curvature) w.curvature
    by true = read_spare h (numbers_in st).curvature (omega (arith, spare_inside z, curvature_fits z z.n few))
    by false = read_curvature h e

-- where a search from what is read of the slots is left
module _ (st : State) {standing : Res Scalar} {theta : Scalar} {w : Memory} {a : List Float} {z : Origin}
    (delta lambda : List Float) (r : declared.Found) where
  pub sought_by : StandingKnown st standing w a → standing ≡ ok theta → st.sizes.n ≤ VARIABLES →
      z ≡ search_origin st a theta →
      found_result r delta lambda (next_in z a delta) ≡ search_of (standing_in z a) z.max_step st.search →
      found_result r delta lambda (moved_of st.sizes.n w.standing delta) ≡ sought_of st w
  sought_by u ev few ez e =
      let h = u.within.holds in
      let t = u.standing_whole in
      let x = read_standing h t.standing in
      let s : Origin = search_origin st a theta in
      let S : standing_in s a ≡ standing_of st w theta =
      rw (x, read_standing_rows h t.standing-rows, curvature_for_read st h few t.curvature) in
      let m : next_in s a delta ≡ moved_of st.sizes.n w.standing delta = rw x in
      sym (ap (λ (y : List Float). found_result r delta lambda y) m)
      ∙ rw ez at e
      ∙ ap (λ (y : Standing). search_of y st.max_step st.search) S
      ∙ sym (ap (sought_with st w) (sym u.standing_is ∙ ev))

-- ---- what a call leaves

module _ (st : State) (w : Memory) {o : Returned} {a : List Float} where
  pub search_by : {f : Found} → f ≡ sought_of st w → Leaves (left_at st w f) o a → Leaves (search st w) o a
  unfolding search left_at
  search_by e l =
      go (violation_of (standing_at st w).constraints) (subst (λ (f : Found). Leaves (left_at st w f) o a) e l)
    where
      go : (v : Res Scalar) → Leaves (left_at st w (sought_with st w v)) o a →
          Leaves
          (or_refuse st w v (λ theta. left_at st w (search_of (standing_of st w theta) st.max_step st.search))) o a
      go (ok theta) l = l
      go (refused k) l = l

  grow_by : {r : Damped} → r ≡ damped goes_on stops_at st.search →
      Leaves (after (λ y. search (searching st y) w) (λ y s. finish (searching st y) w s) r) o a →
      Leaves (grow st w) o a
  unfolding grow
  grow_by e l =
      subst (λ x. Leaves x o a) (damped-by (λ y. search (searching st y) w) (λ y s. finish (searching st y) w s)
      st.search e) l

  pub grow_on : {t : State} {y : Search} → d.On y ≡ damped goes_on stops_at st.search → t ≡ searching st y →
      Leaves (search t w) o a → Leaves (grow st w) o a
  grow_on e et l = grow_by e (subst (λ (z : State). Leaves (search z w) o a) et l)

  pub grow_stops : {t : State} {y : Search} {s : Stop} → d.Stop y s ≡ damped goes_on stops_at st.search →
      t ≡ searching st y → Leaves (finish t w s) o a → Leaves (grow st w) o a
  grow_stops {s = s} e et l = grow_by e (subst (λ (z : State). Leaves (finish z w s) o a) et l)

  module _ (r : Rejection) {x : Search} (ex : x ≡ rejected_for st.search r) where
    pub turn_next : {q radius : Scalar} {y : Search} {t : State} → div_of st.trial.tried (degenerate four64) ≡ ok q →
        radius ≡ sharpen q → y ≡ with_radius x radius → t ≡ searching st y → Leaves (grow t w) o a
        → Leaves (turn_down st w r) o a
    unfolding turn_down
    turn_next {q} {radius} {y} {t} e er ey et l =
        let x₀ : Search = rejected_for st.search r in
        let es : t ≡ searching st (with_radius x₀ (sharpen q)) = rw (et, ey, er, ex) in
        or_next (searching st x₀) w (λ q. grow (searching st (with_radius x₀ (sharpen q))) w) e
        (subst (λ (z : State). Leaves (grow z w) o a) es l)

    pub turn_refused : {k : ℕ} {t : State} → div_of st.trial.tried (degenerate four64) ≡ refused k →
        t ≡ searching st x → Leaves (refuse t w k) o a → Leaves (turn_down st w r) o a
    unfolding turn_down
    turn_refused {k} {t} e et l =
        let x₀ : Search = rejected_for st.search r in
        let es : t ≡ searching st x₀ = rw (et, ex) in
        or_refused (searching st x₀) w (λ q. grow (searching st (with_radius x₀ (sharpen q))) w) e
        (subst (λ (z : State). Leaves (refuse z w k) o a) es l)

  pub retries : {x y : Search} {t : State} →
      (not st.search.plain && learned_of st.sizes.n w.curvature) ≡ true →
      x ≡ rejected_for st.search why.NotLower → y ≡ retried x → t ≡ searching st y → Leaves (search t w) o a →
      Leaves (not_lower st w) o a
  unfolding not_lower
  retries {x} {y} {t} e ex ey et l =
      let es : t ≡ searching st (retried (rejected_for st.search why.NotLower)) = rw (et, ey, ex) in
      when (search (searching st (retried (rejected_for st.search why.NotLower))) w) (turn_down st w why.NotLower) e
      (subst (λ (z : State). Leaves (search z w) o a) es l)

  pub turns_down : (not st.search.plain && learned_of st.sizes.n w.curvature) ≡ false →
      Leaves (turn_down st w why.NotLower) o a → Leaves (not_lower st w) o a
  unfolding not_lower
  turns_down e l =
      unless (search (searching st (retried (rejected_for st.search why.NotLower))) w) (turn_down st w why.NotLower)
      e l
