-- The search over dampings: how a proposal is followed, and that the loop ends because the damping is not finite after
-- 1,048 growths.
use mathlib.Core.Bool.{Bool, true, false}
use mathlib.Core.List.{List}
use mathlib.Core.Path.{◌≡◌, refl, ap, ◌∙◌}
use Prim.Native.Nat.{ℕ, suc, ◌+◌, ◌-◌, ◌<◌, ◌≤◌}
use native.Mathlib.Omega.{arith}
use lib.Dec.{T}
use lib.Ieee.{Float}
use Rattle.interval.specs.declared.Scalar.{Scalar}
use Rattle.interval.specs.Enclosure.{Fits}
use Rattle.interval.specs.Result.{Res, ok, refused}
use Rattle.interval.specs.Scalar.{pick, is_finite}
use Rattle.interval.specs.Scaling.{quadrupled, is_positive}
use Rattle.interval.proofs.Scaling.Positive.{positive_of}
use Rattle.run.specs.Proposal.{Standing, Proposal, not_positive, no_drop, unresolved, no_change, ask, proposal_of}
use Rattle.run.specs.Search.{Found, stops, refuses, follow, search_to}
use Rattle.run.specs.State.{rejected_for, with_radius}
use Rattle.run.specs.Damping.{grown, damped}
use Rattle.run.specs.Limits.{DAMPINGS}
use Rattle.run.specs.program.Damping.{goes_on, stops_at}
use Rattle.run.specs.program.Search.{turn_of, turn_result}
use Rattle.run.specs.declared.search.Turn.{Turn}
use Rattle.run.specs.declared.state.Search.{Search}
use Rattle.run.specs.declared.state.Rejection.TheVariants as why
use Rattle.run.specs.declared.state.Stop.{Stop}
use Rattle.run.specs.declared.state.Stop.TheVariants as stop
use Rattle.run.proofs.DampingGrowth.{Growth, growth_new, growth_few, growth_more}

-- what is made of more damping, or of the stop
pub damped_ap : {A B : Type 0} (f : A → B) (on : Search → A) (stop_at : Search → Stop → A) (x : Search) →
    f (damped on stop_at x) ≡ damped (λ y. f (on y)) (λ y s. f (stop_at y s)) x
damped_ap {A} {B} f on stop_at x =
    go (is_finite (grown x).mu) (on (grown x)) (stop_at (grown x) (stop.Damped x.rejected))
  where
    go : (b : Bool) (y z : A) → f (pick b y z) ≡ pick b (f y) (f z)
    go true y z = refl
    go false y z = refl

pub damped_turn : (x : Search) {r : Turn} → r ≡ turn_of (damped goes_on stops_at x) →
    (on : Search → Found) (delta lambda next : List Float)
    → turn_result r on delta lambda next ≡ damped on (λ y s. stops y s) x
damped_turn x e on delta lambda next =
    ap (λ (r : Turn). turn_result r on delta lambda next) e ∙ damped_ap (λ d. turn_result (turn_of d) on delta lambda next)
    goes_on stops_at x

-- y is x with more damping, which is finite
pub record Grew (x y : Search) : Type 0 where
  pub fourfold : y.mu ≡ quadrupled x.mu
  pub one_more : y.turned_down ≡ x.turned_down + 1
  pub still_finite : is_finite y.mu ≡ true

distinct : {A : Type 0} → ◌≡◌ {A = ℕ} 0 1 → A
distinct e = absurd (omega arith)

-- where a search goes on, it is with more damping
damped_grew : (x y : Search) → refuses y 0 ≡ damped (λ z. refuses z 0) (λ z s. stops z s) x → Grew x y
damped_grew x y = go (is_finite (grown x).mu) (stop.Damped x.rejected) refl
  where
    go : (b : Bool) (s : Stop) → is_finite (grown x).mu ≡ b →
        refuses y 0 ≡ pick b (refuses (grown x) 0) (stops (grown x) s) → Grew x y
    go true s f e = let h : y ≡ grown x = cc in rw h (record { fourfold = refl; one_more = refl; still_finite = f })
    go false s f e = distinct (cc)

pub grew : (m : ℕ) (max : Scalar) (x y : Search) (p : Res Proposal) →
    ((on : Search → Found) → on y ≡ follow on m max x p) → Grew x y
grew m max x y (refused k) h = let e = h (λ z. stops z stop.Budget) in distinct (cc)
grew m max x y (ok (ask t)) h = let e = h (λ z. stops z stop.Budget) in distinct (cc)
grew m max x y (ok no_change) h = let e = h (λ z. refuses z 0) in distinct (cc)
grew m max x y (ok (no_drop r)) h = let e = h (λ z. refuses z 0) in distinct (cc)
grew m max x y (ok unresolved) h =
    let g = damped_grew (rejected_for (with_radius x max) why.Unresolved) y (h (λ z. refuses z 0)) in
    record { fourfold = g.fourfold; one_more = g.one_more; still_finite = g.still_finite }
grew m max x y (ok not_positive) h =
    let g = damped_grew (rejected_for x why.NotPositive) y (h (λ z. refuses z 0)) in
    record { fourfold = g.fourfold; one_more = g.one_more; still_finite = g.still_finite }

-- how often the damping grew
abbrev pub growths : Search → Search → ℕ
growths from x = x.turned_down - from.turned_down

-- the search from x is the search that began at `from`, with the dampings that are left
pub record Seeking (S : Standing) (max : Scalar) (from x : Search) : Type 0 where
  pub later : from.turned_down ≤ x.turned_down
  pub growth : Growth from.mu x.mu (growths from x)
  pub same : search_to (DAMPINGS - growths from x) S max x ≡ search_to DAMPINGS S max from

module _ (S : Standing) (max : Scalar) (from : Search) where
  pub seeking : Fits from.mu → T (is_positive from.mu) → Seeking S max from from
  seeking t p = let z : growths from from ≡ 0 = omega arith in record {
    later = omega arith;
    growth = rw z (growth_new (positive_of from.mu t p));
    same = rw z;
  }

  module _ {x : Search} (k : Seeking S max from x) where
    pub few : growths from x < 1049
    few = omega (arith, growth_few k.growth)

    -- the dampings that are left after the next
    abbrev pub onward : Search → Found
    onward y = search_to (DAMPINGS - suc (growths from x)) S max y

    pub followed : follow onward S.e.constraints.count max x (proposal_of S x.mu x.radius) ≡ search_to DAMPINGS
        S max from
    unfolding search_to
    followed =
        let e : DAMPINGS - growths from x ≡ suc (DAMPINGS - suc (growths from x)) = omega (arith, few) in
        rw e at k.same

    pub seek_on : {y : Search} → Grew x y → onward y ≡ search_to DAMPINGS S max from → Seeking S max from y
    seek_on {y} g e =
        let n : growths from y ≡ suc (growths from x) = omega (arith, g.one_more, k.later) in
        record {
          later = omega (arith, g.one_more, k.later);
          growth = rw (n, g.fourfold) (growth_more k.growth (rw g.fourfold at g.still_finite));
          same = rw n e;
        }
