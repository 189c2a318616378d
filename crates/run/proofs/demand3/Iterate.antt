-- From an answer to the next question or the finish: the search, a new iteration, and a step turned down. Each keeps
-- what stands, and the bounds of turn-downs and questions.
use Prim.Native.Nat.{ℕ, suc, ◌+◌, ◌*◌, ◌≤◌, ◌<◌, zero-le}
use mathlib.Core.Bool.{Bool, true, false, not, ◌&&◌}
use mathlib.Core.Path.{◌≡◌, refl, sym, ap}
use native.Mathlib.Omega.{arith}
use borrow.Author.Tests.{leb-false}
use lib.Dec.{leb}
use Rattle.interval.specs.declared.Scalar.{Scalar}
use Rattle.interval.specs.Scalar.{degenerate, div_of, is_finite, sharpen}
use Rattle.interval.specs.Scaling.{four64}
use Rattle.run.specs.Residuals.{violation_of}
use Rattle.run.specs.Area.{Memory, with_trial}
use Rattle.run.specs.Curvature.{learned_of}
use Rattle.run.specs.Search.{Found, asks, stops, refuses, search_of}
use Rattle.run.specs.Damping.{grown}
use Rattle.run.specs.State.{retried, rejected_for, with_radius}
use Rattle.run.specs.State.{searching, trying}
use Rattle.run.specs.Area.{standing_at}
use Rattle.run.specs.Iterate.{standing_of, left_at, search, iterate}
use Rattle.run.specs.Endings.{finish}
use Rattle.run.specs.Decide.{grow, turn_down, not_lower}
use Rattle.run.specs.declared.state.Counts.{Counts}
use Rattle.run.specs.declared.state.Rejection.{Rejection}
use Rattle.run.specs.declared.state.Rejection.TheVariants as why
use Rattle.run.specs.declared.state.Search.{Search}
use Rattle.run.specs.declared.state.State.{State}
use Rattle.run.specs.declared.state.Stop.TheVariants as stop
use Rattle.run.proofs.RefusalLaws.{violation_yields, div_yields}
use Rattle.run.proofs.DampingGrowth.{Growth, growth_few, growth_more, Grew, Leaves, search_left}
use Rattle.run.proofs.demand3.Invariant.{once, once_few, CountBounds, CallContext, Consistent, After}
use Rattle.run.proofs.Booleans.{never}
use Rattle.run.proofs.demand3.Endings.{either_after, refuse_after, or_refuse_after, finish_after, trial_after}

-- a finish within these bounds
pub bounds_few :
    (mu : Scalar) (k : Counts) (x : Search) (since : ℕ) →
    CountBounds mu k x since → x.turned_down ≤ 1049 * k.iterations + 1049
bounds_few mu k x since p = let t = p.turned in omega (arith, once_few x.plain, growth_few p.growth)

-- ---- the search

grown_bounds :
    (mu : Scalar) (k : Counts) (x y : Search) (since d : ℕ) (p : CountBounds mu k x since) →
    Grew x y d → Growth mu y.mu (p.growths + d) → CountBounds mu k y since
grown_bounds mu k x y since d p g w =
    let c = g.counted in
    let t = p.turned in
    let f = p.few in
    let e : once y.plain ≡ once x.plain = ap once g.plain_kept in
    record {
      growths = p.growths + d;
      growth = w;
      fresh = λ h. let n = p.fresh (g.first_kept h).1 in let m = (g.first_kept h).0 in omega arith;
      turned = omega arith;
      few = omega arith;
    }

-- A call goes on from the state st and its memory w, in an iteration that began with the damping mu.
module _ (S : CallContext) (st : State) (w : Memory) (mu : Scalar) (v : Consistent S st mu w) where
  left_after_lem :
      (p : CountBounds mu st.counts st.search 0) →
      st.counts.iterations < st.sizes.limit →
      (f : Found) → Leaves mu st.search p.growths f → After S st.sizes (left_at st w f)
  unfolding left_at
  left_after_lem p lim (asks y t) h =
      trial_after S (trying st y t) (with_trial st w t.next t.delta t.lambda) mu v zero-le
      (grown_bounds mu st.counts st.search y 0 h.more p h.grew h.growth) lim
  left_after_lem p lim (stops y s) h =
      finish_after S (searching st y) w s mu v
      (let c = h.grew.counted in let t = p.turned in let f = h.few in omega (arith, once_few st.search.plain))
  left_after_lem p lim (refuses y k) h = refuse_after S st.sizes (searching st y) w k h

  pub search_after :
      CountBounds mu st.counts st.search 0 →
      st.counts.iterations < st.sizes.limit → After S st.sizes (search st w)
  unfolding search
  search_after p lim =
      or_refuse_after S st.sizes st w (violation_of (standing_at st w).constraints) _
      (violation_yields (standing_at st w).constraints)
      (λ theta e u.
      left_after_lem p lim (search_of (standing_of st w theta) st.max_step st.search)
      (search_left mu (standing_of st w theta) st.max_step st.search p.growths p.growth))

  pub iterate_after : CountBounds mu st.counts st.search 0 → After S st.sizes (iterate st w)
  unfolding iterate
  iterate_after p =
      either_after S st.sizes (leb st.sizes.limit st.counts.iterations) (finish st w stop.Budget)
      (search st w)
      (λ e. finish_after S st w stop.Budget mu v (omega (arith, bounds_few mu st.counts st.search 0 p)))
      (λ e. search_after p (leb-false _ _ e))

-- ---- a step turned down

pub grow_after :
    (S : CallContext) (st : State) (w : Memory) (mu : Scalar) →
    Consistent S st mu w →
    CountBounds mu st.counts st.search 5 →
    st.counts.iterations < st.sizes.limit → After S st.sizes (grow st w)
unfolding grow
grow_after S st w mu v p lim =
    let x = st.search in
    let t = p.turned in
    let f = p.few in
    either_after S st.sizes (is_finite (grown x).mu) (search (searching st (grown x)) w)
    (finish (searching st (grown x)) w (stop.Damped x.rejected))
    (λ e.
    search_after S (searching st (grown x)) w mu v
    (record {
      growths = suc p.growths;
      growth = growth_more p.growth e;
      fresh = λ h. never h;
      turned = omega arith;
      few = omega arith;
    })
    lim)
    (λ e.
    finish_after S (searching st (grown x)) w (stop.Damped x.rejected) mu v
    (omega (arith, bounds_few mu st.counts x 5 p)))

pub turn_down_after :
    (S : CallContext) (st : State) (w : Memory) (r : Rejection) (mu : Scalar) →
    Consistent S st mu w →
    CountBounds mu st.counts st.search 5 →
    st.counts.iterations < st.sizes.limit → After S st.sizes (turn_down st w r)
unfolding turn_down
turn_down_after S st w r mu v p lim =
    let x = rejected_for st.search r in
    or_refuse_after S st.sizes (searching st x) w (div_of st.trial.tried (degenerate four64)) _
    (div_yields st.trial.tried (degenerate four64))
    (λ q e u.
    grow_after S (searching st (with_radius x (sharpen q))) w mu v
    (record { growths = p.growths; growth = p.growth; fresh = p.fresh; turned = p.turned; few = p.few }) lim)

pub not_lower_after :
    (S : CallContext) (st : State) (w : Memory) (mu : Scalar) →
    Consistent S st mu w →
    CountBounds mu st.counts st.search 5 →
    st.counts.iterations < st.sizes.limit → After S st.sizes (not_lower st w)
unfolding not_lower
not_lower_after S st w mu v p lim =
    let x = retried (rejected_for st.search why.NotLower) in
    either_after S st.sizes (not st.search.plain && learned_of st.sizes.n w.curvature)
    (search (searching st x) w) (turn_down st w why.NotLower)
    (λ e.
    search_after S (searching st x) w mu v
    (retry (not_plain st.search.plain (learned_of st.sizes.n w.curvature) e)) lim)
    (λ e. turn_down_after S st w why.NotLower mu v p lim)
  where
    not_plain : (b c : Bool) → (not b && c) ≡ true → b ≡ false
    not_plain false c e = refl
    not_plain true c e = sym e

    retry : st.search.plain ≡ false → CountBounds mu st.counts (retried (rejected_for st.search why.NotLower)) 0
    retry e =
        let c : once st.search.plain ≡ 0 = ap once e in
        let t = p.turned in
        let f = p.few in
        record { growths = p.growths; growth = p.growth; fresh = p.fresh; turned = omega arith; few = omega arith }
