-- An accepted answer, from the question that it answers to the next one or the finish: where its point lands, and what
-- corrections follow.
use Prim.Native.Nat.{ℕ, ◌+◌, ◌≤◌, ◌<◌, zero-le}
use mathlib.Core.Path.{◌≡◌, sym, subst}
use mathlib.Core.List.{List, ◌∷◌}
use native.Mathlib.Omega.{arith}
use borrow.Author.Tests.{leb-false}
use lib.Dec.{leb}
use lib.Ieee.{Float}
use Rattle.interval.specs.declared.Scalar.{Scalar}
use Rattle.interval.specs.Result.{ok}
use Rattle.interval.specs.Scalar.{definitely_greater, definitely_less}
use Rattle.run.specs.Residuals.{violation_of}
use Rattle.run.specs.Area.{Memory, with_asked, with_landed}
use Rattle.run.specs.Limits.{CORRECTIONS}
use Rattle.run.specs.Corrected.{to, stay, shift_of, shift_from, shifted_step}
use Rattle.run.specs.Area.{rows_at, standing_at, landed_at}
use Rattle.run.specs.Endings.{AfterSlots, question}
use Rattle.run.specs.State.{landing}
use Rattle.run.specs.Decide.{judge}
use Rattle.run.specs.Corrected.{correct, land_trial, keep, land_correction}
use Rattle.run.specs.Demand.{In}
use Rattle.run.specs.declared.state.Kind.TheVariants as kind
use Rattle.run.specs.declared.state.State.{State}
use Rattle.run.proofs.RefusalLaws.{ShiftSized, violation_yields, shift_yields, shifted_yields}
use Rattle.run.proofs.demand3.ExactLaws.{ExactLaws}
use Rattle.run.proofs.demand3.Invariant.{CallContext, After}
use Rattle.run.proofs.demand3.Endings.{either_after, or_refuse_after, correction_after}
use Rattle.run.proofs.demand3.Decide.{Landing, judge_after}

-- ---- corrections

below_landed : (S : CallContext) (st : State) (w : Memory) (since : ℕ) (L : Landing S st w since) (e : ℕ)
    → In e (st.counts.standing ∷ L.consistent.before) → e < st.counts.landed
below_landed S st w since L e i =
    L.newer e (subst (In e) (sym S.stood_is)
    (subst (λ (s : ℕ). In e (s ∷ S.before)) L.still
    (subst (λ (b : List ℕ). In e (st.counts.standing ∷ b)) L.still_before i)))

pub correct_after : (law : ExactLaws) (S : CallContext) (st : State) (w : Memory)
    → Landing S st w (1 + st.counts.corrections) → st.counts.corrections ≤ 3 → (theta : Scalar)
    → violation_of (standing_at st w).constraints ≡ ok theta → After S st.sizes (correct st w theta)
unfolding correct
correct_after law S st w L few theta theta-is =
    or_refuse_after S st.sizes st w (shift_from st.moving (landed_at st w).constraints w.landed) _
    (shifted_yields st.moving (landed_at st w).constraints w.landed)
    (λ s. elim s as (λ x. shift_from st.moving (landed_at st w).constraints w.landed ≡ ok x → ShiftSized x
    → After S st.sizes (elim x as (λ y. AfterSlots) [
      | to next ↦ question st (with_asked st w next) kind.Correction st.counts.corrections
      | stay ↦ judge st w theta
    ])) [
      | to next ↦ λ e u.
          correction_after S st (with_asked st w next) S.history.mu L.consistent L.count_bounds
          L.below_limit few L.landed-rows L.landed_point L.landed_asked
          (below_landed S st w (1 + st.counts.corrections) L)
      | stay ↦ λ e u. judge_after law S st w (1 + st.counts.corrections) L (omega arith) theta theta-is
    ])

-- ---- where a point lands

pub land_trial_after : (law : ExactLaws) (S : CallContext) (st : State) (w : Memory) (m : ℕ) (rows : List Float)
    → Landing S (landing st m 0) (with_landed w rows w.step) 1 → (theta : Scalar)
    → violation_of (standing_at st w).constraints ≡ ok theta → After S st.sizes (land_trial st w m rows theta)
unfolding land_trial
land_trial_after law S st w m rows L theta theta-is =
    let t = landing st m 0 in
    let v = with_landed w rows w.step in
    or_refuse_after S st.sizes t v (violation_of (landed_at t v).constraints) _
    (violation_yields (landed_at t v).constraints)
    (λ new e u. either_after S st.sizes (definitely_greater new theta) (correct t v theta) (judge t v theta)
    (λ h. correct_after law S t v L zero-le theta theta-is)
    (λ h. judge_after law S t v 1 L (omega arith) theta theta-is))

keep_after : (law : ExactLaws) (S : CallContext) (st : State) (w : Memory) (m : ℕ) (rows : List Float)
    → ((step : List Float)
    → Landing S (landing st m (st.counts.corrections + 1)) (with_landed w rows step)
    (1 + (st.counts.corrections + 1)))
    → st.counts.corrections ≤ 3
    → (theta : Scalar) → violation_of (standing_at st w).constraints ≡ ok theta
    → After S st.sizes (keep st w m rows theta)
unfolding keep
keep_after law S st w m rows land few theta theta-is =
    or_refuse_after S st.sizes st w (shift_of st.moving (landed_at st w).constraints) _
    (shift_yields st.moving (landed_at st w).constraints)
    (λ d e u.
    let t = landing st m (st.counts.corrections + 1) in
    let v = with_landed w rows (shifted_step st.sizes.n w.step d) in
    let L = land (shifted_step st.sizes.n w.step d) in
    either_after S st.sizes (leb CORRECTIONS (st.counts.corrections + 1)) (judge t v theta) (correct t v theta)
    (λ h. judge_after law S t v (1 + (st.counts.corrections + 1)) L (omega arith) theta theta-is)
    (λ h. let l = leb-false CORRECTIONS (st.counts.corrections + 1) h in
    correct_after law S t v L (omega arith) theta theta-is))

pub land_correction_after : (law : ExactLaws) (S : CallContext) (st : State) (w : Memory) (m : ℕ) (rows : List Float)
    → Landing S st w (2 + st.counts.corrections)
    → ((step : List Float)
    → Landing S (landing st m (st.counts.corrections + 1)) (with_landed w rows step)
    (1 + (st.counts.corrections + 1)))
    → st.counts.corrections ≤ 3
    → (theta : Scalar) → violation_of (standing_at st w).constraints ≡ ok theta
    → After S st.sizes (land_correction st w m rows theta)
unfolding land_correction
land_correction_after law S st w m rows L land few theta theta-is =
    or_refuse_after S st.sizes st w (violation_of (rows_at st m rows).constraints) _
    (violation_yields (rows_at st m rows).constraints)
    (λ new e u.
    or_refuse_after S st.sizes st w (violation_of (landed_at st w).constraints) _
    (violation_yields (landed_at st w).constraints)
    (λ old d v.
    either_after S st.sizes (definitely_less new old) (keep st w m rows theta) (judge st w theta)
    (λ h. keep_after law S st w m rows land few theta theta-is)
    (λ h. judge_after law S st w (2 + st.counts.corrections) L (omega arith) theta theta-is)))
