-- The damping of an iteration: its first is positive, and each growth is four times the one before while that is
-- finite. So a search grows it at most 1,049 times, and only the last of these is not finite.
use Prim.Native.Nat.{ℕ, zero, suc, ◌+◌, ◌≤◌, ◌<◌}
use mathlib.Core.Bool.{Bool, true, false, ◌||◌}
use mathlib.Core.Logic.{⊎_elim}
use mathlib.Core.Path.{◌≡◌, refl, sym, ap, ◌∙◌, subst}
use native.Mathlib.Nat.{le_of_suc-le-suc, eq-or-lt_of_le, le_refl}
use native.Mathlib.Omega.{arith}
use lib.Dec.{T, eqb}
use lib.Ieee.{le, lt, of_int, div, round, of_bits, to_bits, neg, eq}
use lib.Ieee.Bits.{is_true}
use lib.Ieee.Scale.{finite}
use Rattle.interval.specs.declared.Scalar.{Scalar}
use Rattle.interval.specs.Enclosure.{Fits}
use Rattle.interval.specs.Result.{Res, ok, refused}
use Rattle.interval.specs.Scalar.{zero_s, pick, degenerate, is_finite, div_of, sharpen, definitely_greater, from_ratio}
use Rattle.interval.specs.Scaling.{three64, quadrupled, quadrupled_times, third, is_positive}
use Rattle.interval.specs.Step.{next_up}
use Rattle.interval.proofs.Given.{yes}
use Rattle.interval.proofs.OneSided.Ends.{outward_fits}
use Rattle.interval.proofs.Results.{ok_inj}
use Rattle.interval.proofs.Scaling.Positive.{Positive, positive_of, positive_is, quadrupled_positive, third_positive}
use Rattle.interval.proofs.Scaling.Positive.{quadrupled_few}
use Rattle.run.specs.Proposal.{Standing, Trial, Proposal, not_positive, no_drop, unresolved, no_change, ask}
use Rattle.run.specs.Proposal.{proposal_of}
use Rattle.run.specs.State.{rejected_for, with_radius}
use Rattle.run.specs.Damping.{grown, damped}
use Rattle.run.specs.Search.{Found, asks, stops, refuses, follow, search_to, search_of}
use Rattle.run.specs.Limits.{DAMPINGS}
use Rattle.run.specs.Damping.{shrunk}
use Rattle.run.specs.Damping.{first_mu}
use Rattle.run.specs.Demand.{next_mu}
use Rattle.run.specs.declared.state.Search.{Search}
use Rattle.run.specs.declared.state.Rejection.TheVariants as why
use Rattle.run.specs.declared.state.Stop.TheVariants as stop
use Rattle.run.proofs.Booleans.{never, and_left}
use Rattle.run.proofs.RefusalLaws.{Yields, gives, TrialSized, ProposalSized, proposal_yields}
use Rattle.run.proofs.RefusalLaws as yields

-- mu is what g growths made of a positive damping, the first, each of them finite
pub record Growth (first mu : Scalar) (g : ℕ) : Type 0 where
  pub positive : Positive first
  pub is : mu ≡ quadrupled_times first g
  pub all-finite : (i : ℕ) → i ≤ g → T (finite (quadrupled_times first i).lo)

times_positive : (x : Scalar) → Positive x → (g : ℕ) → ((i : ℕ) → i ≤ g → T (finite (quadrupled_times x i).lo)) →
    Positive (quadrupled_times x g)
unfolding quadrupled_times
times_positive x p zero h = p
times_positive x p (suc g) h =
    quadrupled_positive (quadrupled_times x g) (times_positive x p g (λ i k. h i (omega arith)))
    (h (suc g) (le_refl (suc g)))

now_positive : {first mu : Scalar} {g : ℕ} → Growth first mu g → Positive mu
now_positive {first} {mu} {g} w = subst Positive (sym w.is) (times_positive first w.positive g w.all-finite)

pub growth_positive : {first mu : Scalar} {g : ℕ} → Growth first mu g → is_positive mu ≡ true
growth_positive {first} {mu} w = is_true (is_positive mu) (positive_is mu (now_positive w))

pub growth_few : {first mu : Scalar} {g : ℕ} → Growth first mu g → g ≤ 1048
growth_few {first} {mu} {g} w = le_of_suc-le-suc (quadrupled_few first w.positive g w.all-finite)

pub growth_new : {mu : Scalar} → Positive mu → Growth mu mu 0
unfolding quadrupled_times
growth_new {mu} p = record { positive = p; is = refl; all-finite = λ i h. at_none i h }
  where
    at_none : (i : ℕ) → i ≤ 0 → T (finite (quadrupled_times mu i).lo)
    at_none i h =
        let e : i ≡ 0 = omega arith in
        subst (λ (j : ℕ). T (finite (quadrupled_times mu j).lo)) (sym e) p.lo_pattern.is-finite

-- a damping that has not grown is the first
pub growth_none : {first mu : Scalar} {g : ℕ} → Growth first mu g → g ≡ 0 → mu ≡ first
unfolding quadrupled_times
growth_none {first} w e = w.is ∙ ap (quadrupled_times first) e

pub growth_more :
    {first mu : Scalar} {g : ℕ} →
    Growth first mu g → is_finite (quadrupled mu) ≡ true → Growth first (quadrupled mu) (suc g)
unfolding quadrupled_times
growth_more {first} {mu} {g} w e =
    record {
      positive = w.positive;
      is = ap quadrupled w.is;
      all-finite = λ i h.
          ⊎_elim
          (λ (q : i ≡ suc g). subst (λ (j : ℕ). T (finite (quadrupled_times first j).lo)) (sym q) one_more)
          (λ (l : i < suc g). w.all-finite i (le_of_suc-le-suc l))
          (eq-or-lt_of_le h);
    }
  where
    one_more : T (finite (quadrupled_times first (suc g)).lo)
    one_more =
        subst (λ (z : Scalar). T (finite (quadrupled z).lo)) w.is
        (yes (and_left (finite (quadrupled mu).lo) (finite (quadrupled mu).hi) e))

-- mu / 3, or mu where that is not definitely positive: a new iteration's first damping
pub growth_third :
    {first mu q : Scalar} {g : ℕ} →
    Growth first mu g → div_of mu (degenerate three64) ≡ ok q → Growth (shrunk mu q) (shrunk mu q) 0
unfolding div_of le lt eq
growth_third {first} {mu} {q} w e = by (definitely_greater (sharpen q) zero_s) refl
  where
    is_third : third mu ≡ sharpen q
    is_third = ap sharpen (ok_inj e)

    by :
        (b : Bool) →
        definitely_greater (sharpen q) zero_s ≡ b → Growth (pick b (sharpen q) mu) (pick b (sharpen q) mu) 0
    by true p =
        growth_new
        (subst Positive is_third
        (third_positive mu (now_positive w) (subst (λ (z : Scalar). T (definitely_greater z zero_s)) (sym is_third)
        (yes p))))
    by false p = growth_new (now_positive w)

-- as demand 3 says it
pub next_mu_is : (mu q : Scalar) → div_of mu (degenerate three64) ≡ ok q → shrunk mu q ≡ next_mu mu
unfolding div_of le lt eq
next_mu_is mu q e =
    let is : sharpen q ≡ third mu = sym (ap sharpen (ok_inj e)) in
    ap (λ (z : Scalar). pick (definitely_greater z zero_s) z mu) is

-- begin's damping
pub first_mu_fits : Fits first_mu
unfolding from_ratio
first_mu_fits = outward_fits _ _

pub first_mu_positive : is_positive first_mu ≡ true
unfolding from_ratio of_int div round next_up neg to_bits of_bits lt le eq
first_mu_positive = refl

pub growth_begin : Growth first_mu first_mu 0
growth_begin = growth_new (positive_of first_mu first_mu_fits (yes first_mu_positive))

-- ---- the search

-- y after d growths more; `first` says that there was none
pub record Grew (x y : Search) (d : ℕ) : Type 0 where
  pub counted : y.turned_down ≡ x.turned_down + d
  pub plain_kept : y.plain ≡ x.plain
  pub first_kept : y.first ≡ true → (d ≡ 0) × (x.first ≡ true)

pub record Asking (mu : Scalar) (x : Search) (g : ℕ) (y : Search) (t : Trial) : Type 0 where
  pub more : ℕ
  pub grew : Grew x y more
  pub growth : Growth mu y.mu (g + more)
  pub sized : TrialSized t

pub record Stopping (x : Search) (g : ℕ) (y : Search) : Type 0 where
  pub more : ℕ
  pub grew : Grew x y more
  pub few : g + more ≤ 1049

-- what a search from x leaves, whose damping is what g growths made of mu
abbrev pub Leaves : Scalar → Search → ℕ → Found → Type 0
Leaves mu x g (asks y t) = Asking mu x g y t
Leaves mu x g (stops y s) = Stopping x g y
Leaves mu x g (refuses y k) = T (eqb k 5 || eqb k 6)

-- the same counts
pub record Alike (x y : Search) : Type 0 where
  pub same_mu : y.mu ≡ x.mu
  pub same_count : y.turned_down ≡ x.turned_down
  pub same_plain : y.plain ≡ x.plain

-- one growth, and what follows it: `first` is false from then on
grew_first : (x y : Search) (d : ℕ) {x' : Search} → Alike x x' → Grew (grown x') y d → Grew x y (suc d)
grew_first x y d a w =
    record {
      counted = let c = w.counted in let s = a.same_count in omega arith;
      plain_kept = w.plain_kept ∙ a.same_plain;
      first_kept = λ e. never (w.first_kept e).1;
    }

-- no growth
grew_none : (x : Search) → Grew x x 0
grew_none x = record { counted = omega arith; plain_kept = refl; first_kept = λ e. (refl, e) }

stays : (mu : Scalar) (x : Search) (g : ℕ) → Growth mu x.mu g → Stopping x g x
stays mu x g w = record { more = 0; grew = grew_none x; few = omega (arith, growth_few w) }

module _ (mu : Scalar) where
  after_growth :
      (x x' : Search) (g : ℕ) → Alike x x' → (f : Found) → Leaves mu (grown x') (suc g) f → Leaves mu x g f
  after_growth x x' g a (asks y t) w =
      let e : g + suc w.more ≡ suc g + w.more = omega arith in
      record {
        more = suc w.more;
        grew = grew_first x y w.more a w.grew;
        growth = subst (Growth mu y.mu) (sym e) w.growth;
        sized = w.sized;
      }
  after_growth x x' g a (stops y s) w =
      record { more = suc w.more; grew = grew_first x y w.more a w.grew; few = let f = w.few in omega arith }
  after_growth x x' g a (refuses y k) w = w

  -- a damping that grew beyond the finite
  grown_out : (x x' : Search) (g : ℕ) → Alike x x' → Growth mu x.mu g → Stopping x g (grown x')
  grown_out x x' g a w =
      record { more = 1; grew = grew_first x (grown x') 0 a (grew_none (grown x')); few = omega (arith, growth_few w) }

  -- what follows each search leaves so much
  abbrev Goes : (Search → Found) → Type 0
  Goes on = (y : Search) (g : ℕ) → Growth mu y.mu g → Leaves mu y g (on y)

  damped_leaves :
      (on : Search → Found) →
      Goes on →
      (x x' : Search) (g : ℕ) → Alike x x' → Growth mu x.mu g → Leaves mu x g (damped on (λ y s. stops y s) x')
  damped_leaves on h x x' g a w = by (is_finite (grown x').mu) refl
    where
      grows : is_finite (grown x').mu ≡ true → Growth mu (grown x').mu (suc g)
      grows e = growth_more (subst (λ (z : Scalar). Growth mu z g) (sym a.same_mu) w) e

      by :
          (b : Bool) →
          is_finite (grown x').mu ≡ b →
          Leaves mu x g (pick b (on (grown x')) (stops (grown x') (stop.Damped x'.rejected)))
      by true e = after_growth x x' g a (on (grown x')) (h (grown x') (suc g) (grows e))
      by false e = grown_out x x' g a w

  follow_leaves :
      (on : Search → Found) →
      Goes on →
      (m : ℕ) (max : Scalar) (x : Search) (g : ℕ) →
      Growth mu x.mu g → (p : Res Proposal) → Yields ProposalSized p → Leaves mu x g (follow on m max x p)
  follow_leaves on h m max x g w (refused k) (yields.refuses p) = p
  follow_leaves on h m max x g w (ok (ask t)) (gives p) =
      let e : g ≡ g + 0 = omega arith in
      record { more = 0; grew = grew_none x; growth = subst (Growth mu x.mu) e w; sized = p }
  follow_leaves on h m max x g w (ok no_change) (gives p) = stays mu x g w
  follow_leaves on h m max x g w (ok (no_drop r)) (gives p) = stays mu x g w
  follow_leaves on h m max x g w (ok unresolved) (gives p) =
      damped_leaves on h x (rejected_for (with_radius x max) why.Unresolved) g
      (record { same_mu = refl; same_count = refl; same_plain = refl }) w
  follow_leaves on h m max x g w (ok not_positive) (gives p) =
      damped_leaves on h x (rejected_for x why.NotPositive) g
      (record { same_mu = refl; same_count = refl; same_plain = refl }) w

  search_leaves :
      (t : ℕ) (S : Standing) (max : Scalar) (x : Search) (g : ℕ) →
      Growth mu x.mu g → Leaves mu x g (search_to t S max x)
  unfolding search_to
  search_leaves zero S max x g w = stays mu x g w
  search_leaves (suc t) S max x g w =
      follow_leaves (λ y. search_to t S max y) (λ y g v. search_leaves t S max y g v) S.e.constraints.count max x g
      w
      (proposal_of S x.mu x.radius) (proposal_yields S x.mu x.radius)

  pub search_left :
      (S : Standing) (max : Scalar) (x : Search) (g : ℕ) →
      Growth mu x.mu g → Leaves mu x g (search_of S max x)
  unfolding search_of
  search_left S max x g w = search_leaves DAMPINGS S max x g w
