-- A search from a positive damping never uses up what `search_to` allows, and a new iteration's damping is positive
-- again.
use Rattle.std.specs.Prelude.{Some}
use Prim.Native.Nat.{ℕ, zero, suc, ◌+◌, ◌≤◌}
use mathlib.Core.Bool.{Bool, true, false}
use mathlib.Core.Path.{◌≡◌, refl, sym, ◌∙◌}
use native.Mathlib.Omega.{arith}
use Rattle.interval.specs.declared.Scalar.{Scalar}
use Rattle.interval.specs.Enclosure.{Fits}
use Rattle.interval.specs.Result.{Res, ok, refused}
use Rattle.interval.specs.Scalar.{degenerate, pick, is_finite, div_of}
use Rattle.interval.specs.Scaling.{three64, quadrupled, is_positive}
use Rattle.interval.proofs.Given.{yes}
use Rattle.interval.proofs.Scaling.Positive.{positive_of}
use Rattle.run.specs.Proposal.{Standing, Proposal, not_positive, no_drop, unresolved, no_change, ask, proposal_of}
use Rattle.run.specs.Damping.{shrunk}
use Rattle.run.specs.State.{rejected_for, with_radius}
use Rattle.run.specs.Damping.{grown, damped}
use Rattle.run.specs.Search.{Found, stops, follow, search_to, search_of}
use Rattle.run.specs.Limits.{DAMPINGS}
use Rattle.run.specs.declared.state.Rejection.{Rejection}
use Rattle.run.specs.declared.state.Rejection.TheVariants as why
use Rattle.run.specs.declared.state.Search.{Search}
use Rattle.run.specs.declared.state.Stop.TheVariants as stop
use Rattle.run.proofs.DampingGrowth.{Growth, growth_new, growth_few, growth_more, growth_third, growth_positive}

started : (mu : Scalar) → Fits mu → is_positive mu ≡ true → Growth mu mu 0
started mu t h = growth_new (positive_of mu t (yes h))

-- x with another radius and rejection, grown
abbrev grown_for : Search → Scalar → Rejection → Search
grown_for x radius r = grown (rejected_for (with_radius x radius) r)

module _ (S : Standing) (max : Scalar) where
  -- two searches that agree on what has grown once more
  module _ (first : Scalar) (g : ℕ) (x : Search) (w : Growth first x.mu g) (on on' : Search → Found)
      (same : (y : Search) → Growth first y.mu (suc g) → on y ≡ on' y) where
    damped_same : (radius : Scalar) (r : Rejection) → damped on (λ y s. stops y s) (rejected_for (with_radius x radius) r)
        ≡ damped on' (λ y s. stops y s) (rejected_for (with_radius x radius) r)
    damped_same radius r = go (is_finite (quadrupled x.mu)) refl
      where
        go : (b : Bool) → is_finite (quadrupled x.mu) ≡ b →
            pick b (on (grown_for x radius r)) (stops (grown_for x radius r) (stop.Damped (Some r)))
            ≡ pick b (on' (grown_for x radius r)) (stops (grown_for x radius r) (stop.Damped (Some r)))
        go true e = same (grown_for x radius r) (growth_more w e)
        go false e = refl

    follow_same : (m : ℕ) (p : Res Proposal) → follow on m max x p ≡ follow on' m max x p
    follow_same m (refused k) = refl
    follow_same m (ok (ask t)) = refl
    follow_same m (ok no_change) = refl
    follow_same m (ok (no_drop r)) = refl
    follow_same m (ok unresolved) = damped_same max why.Unresolved
    follow_same m (ok not_positive) = damped_same x.radius why.NotPositive

  enough :
      (t t' g : ℕ) (first : Scalar) (x : Search) →
      Growth first x.mu g → 1049 ≤ t + g → 1049 ≤ t' + g → search_to t S max x ≡ search_to t' S max x
  unfolding search_to
  enough zero t' g first x w h k = absurd (omega (arith, growth_few w))
  enough (suc t) zero g first x w h k = absurd (omega (arith, growth_few w))
  enough (suc t) (suc t') g first x w h k =
      follow_same first g x w (λ y. search_to t S max y) (λ y. search_to t' S max y)
      (λ y v. enough t t' (suc g) first y v (omega arith) (omega arith)) S.e.constraints.count
      (proposal_of S x.mu x.radius)

-- from a positive damping, to allow more changes nothing
pub search_enough : (t : ℕ) (S : Standing) (max : Scalar) (x : Search) → Fits x.mu → is_positive x.mu ≡ true →
    1049 ≤ t → search_to t S max x ≡ search_of S max x
unfolding search_of
search_enough t S max x f h k = enough S max t DAMPINGS 0 x.mu x (started x.mu f h) (omega arith) (omega arith)

-- so the search goes on until a question, a stop or a refusal
pub search_follows : (S : Standing) (max : Scalar) (x : Search) → Fits x.mu → is_positive x.mu ≡ true →
    search_of S max x ≡ follow (λ y. search_of S max y) S.e.constraints.count max x
    (proposal_of S x.mu x.radius)
unfolding search_of
search_follows S max x f h = sym (search_enough (suc DAMPINGS) S max x f h (omega arith)) ∙ (unfold search_to in refl)

-- four times a positive damping, where finite, is positive
pub quadrupled_sound : (mu : Scalar) → Fits mu → is_positive mu ≡ true → is_finite (quadrupled mu) ≡ true →
    is_positive (quadrupled mu) ≡ true
quadrupled_sound mu t h f = growth_positive (growth_more (started mu t h) f)

-- ---- the damping of a new iteration
pub shrunk_positive : (mu q : Scalar) → Fits mu → is_positive mu ≡ true → div_of mu (degenerate three64) ≡ ok q →
    is_positive (shrunk mu q) ≡ true
shrunk_positive mu q t h e = growth_positive (growth_third (started mu t h) e)
