-- A begin that is accepted leaves the run that `begun_of` gives: its sizes are within the limits, its area has room for
-- it, and number 4 does not refuse it.
use Rattle.run.specs.declared.refusal.Refusal.{Refusal}
use Rattle.run.specs.declared.refusal.Refusal.TheVariants.{OutsideDomain, TooMany, WrongLength}
use Rattle.std.specs.Prelude.{Some}
use Prim.Native.Nat.{ℕ, ◌*◌, zero-le}
use mathlib.Core.Bool.{Bool, true, false, ◌&&◌}
use mathlib.Core.Path.{◌≡◌, refl}
use mathlib.Core.List.{List}
use native.Mathlib.Nat.{le_refl}
use native.Mathlib.Omega.{arith}
use borrow.Author.Tests.{eq-eqb, eqb-true}
use lib.Dec.{eqb}
use lib.IntN.{pos}
use lib.Ieee.{Float, of_bits, neg, lt, le, eq, of_int, round}
use lib.ListN.{length}
use Rattle.interval.specs.declared.Scalar.{Scalar}
use Rattle.linear.specs.Flat.{zeros}
use Rattle.run.specs.Area.{area_length, HasRoom, area_of, begun_memory}
use Rattle.run.specs.Calls.{AfterCall, Accepted, unchanged, checks}
use Rattle.run.specs.Checks.{sizes_fit, valid, in_domain, all_in_domain, step_fits}
use Rattle.run.specs.State.{state_with, no_run}
use Rattle.run.specs.Damping.{first_mu}
use Rattle.run.specs.Calls.{begin_of, begun_of}
use Rattle.run.specs.declared.state.Kind.TheVariants as kind
use Rattle.run.specs.declared.state.Sizes.{Sizes}
use Rattle.run.specs.declared.state.State.{State}
use Rattle.run.proofs.AreaLaws.{length_clear}
use Rattle.run.proofs.AreaRead.{area_long}
use Rattle.run.proofs.Booleans.{and_left}
use Rattle.run.proofs.CheckLaws.{size_bounds}
use Rattle.run.proofs.Cleared.{begun_lengths, begun_limits}
use Rattle.run.proofs.DampingGrowth.{growth_begin, growth_positive}
use Rattle.run.proofs.demand3.Endings.{sound_valid}
use Rattle.known_answers.specs.KnownAnswers.{between}
use Rattle.known_answers.proofs.Zeros.{zeros_all}

-- a check, passed or not
checked : (P : AfterCall → Type 0) (b : Bool) (k : Refusal) (back : Refusal → AfterCall) (next : AfterCall) → P (back k)
    → (b ≡ true → P next)
    → P (checks b k back next)
checked P true k back next p h = h refl
checked P false k back next p h = p

abbrev pub begun_state : Sizes → Scalar → State
begun_state z max = state_with z first_mu max (Some kind.Start)

pub record Begins (z : Sizes) (start : List Float) (max : Scalar) (b : AfterCall) : Type 0 where
  pub is : b ≡ begun_of z start max
  pub fit : sizes_fit z ≡ true
  pub size : length start ≡ 2 * z.n

pub begins : (z : Sizes) (start : List Float) (max : Scalar) (a : List Float) → Accepted (begin_of z start max a)
    → Begins z start max (begin_of z start max a)
unfolding begin_of
begins z start max a =
    checked IfAccepted (sizes_fit z) TooMany (unchanged no_run a) _ (not_asked TooMany)
    (λ fit.
    checked IfAccepted (eqb (length start) (2 * z.n) && eqb (length a) (area_length z)) WrongLength (unchanged no_run a) _
    (not_asked WrongLength)
    (λ g.
    checked IfAccepted (all_in_domain start z.n && step_fits max) OutsideDomain (unchanged no_run a) _ (not_asked OutsideDomain)
    (λ h q. record {
      is = refl;
      fit = fit;
      size = eqb-true _ _ (and_left (eqb (length start) (2 * z.n)) (eqb (length a) (area_length z)) g);
    })))
  where
    IfAccepted : AfterCall → Type 0
    IfAccepted b = Accepted b → Begins z start max b

    not_asked : (k : Refusal) → IfAccepted (unchanged no_run a k)
    not_asked k q = absurd (let z : ◌≡◌ {A = ℕ} 0 1 = cc in omega arith)

pub begun_area : (z : Sizes) (start : List Float) (max : Scalar) → sizes_fit z ≡ true → length start ≡ 2 * z.n
    → HasRoom z (area_of z (begun_memory start))
begun_area z start max fit size =
    area_long (begun_state z max) (begun_memory start) (begun_limits z start max (size_bounds z fit))
    (begun_lengths z start max size)

pub begun_valid : (z : Sizes) (max : Scalar) → sizes_fit z ≡ true → valid (begun_state z max) ≡ true
begun_valid z max fit =
    sound_valid (begun_state z max)
    (record {
      sizes-fit = fit;
      contents-fit = refl;
      within = zero-le;
      few_turned = zero-le;
      few_asked = zero-le;
      few_corrections = zero-le;
      phase-fits = growth_positive growth_begin;
    })

-- zeros as start, with steps up to 1
zeros_domain : (n : ℕ) → all_in_domain (zeros (2 * n)) n ≡ true
unfolding le lt eq neg of_bits
zeros_domain n = zeros_all in_domain refl (2 * n) n (le_refl (2 * n))

pub begin_accepted : (z : Sizes) (a : List Float) → sizes_fit z ≡ true → HasRoom z a
    → Accepted (begin_of z (zeros (2 * z.n)) (between (pos 1) (pos 1)) a)
unfolding begin_of le lt eq neg of_bits of_int round
begin_accepted z a fit l = rw (fit, eq-eqb _ _ (length_clear (2 * z.n)), eq-eqb _ _ l, zeros_domain z.n)
