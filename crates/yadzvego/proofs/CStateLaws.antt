-- The conversion there and back loses nothing: each enum's number is read as the case that it is the number of, and the
-- other fields are the same. So it is the other way, for a C state that a call may leave.
use Rattle.std.specs.Prelude.{None, Option, Some}
use Rattle.run.specs.declared.state.Kind.{Kind}
use Prim.Native.Nat.{ℕ, zero, suc}
use mathlib.Core.Bool.{true}
use mathlib.Core.Path.{◌≡◌, refl, sym}
use native.Mathlib.Omega.{arith}
use borrow.Author.Tests.{ltb-true, ne_eqb}
use lib.Dec.{ltb}
use Rattle.interval.specs.declared.Scalar.{Scalar}
use Rattle.interval.specs.Result.{ok}
use Rattle.interval.specs.Scalar.{zero_s}
use Rattle.run.proofs.CheckLaws.{both}
use Rattle.run.specs.declared.state.Kind.TheVariants as kind
use Rattle.run.specs.declared.state.Rejection.{Rejection}
use Rattle.run.specs.declared.state.Rejection.TheVariants as why
use Rattle.run.specs.declared.state.State.{State}
use Rattle.yadzvego.specs.CState.{phase_number, phase_at, rejection_number, rejection_at, last_number, last_length}
use Rattle.yadzvego.specs.CState.{last_at, c_state_of, numbers_fit, state_at, state_of}
use Rattle.yadzvego.specs.declared.c_state.Run.{Run}

-- ---- each number, read back

pub phase_back : (p : Option Kind) → phase_at (phase_number p) ≡ p
phase_back (Some kind.Start) = refl
phase_back (Some kind.Trial) = refl
phase_back (Some kind.Correction) = refl
phase_back None = refl

pub rejection_back : (r : Option Rejection) → rejection_at (rejection_number r) ≡ r
rejection_back None = refl
rejection_back (Some why.NotPositive) = refl
rejection_back (Some why.Infeasible) = refl
rejection_back (Some why.Unresolved) = refl
rejection_back (Some why.NotLower) = refl

pub last_back : (l : Option Scalar) → last_at (last_number l) (last_length l) ≡ l
last_back None = refl
last_back (Some x) = refl

-- ---- each number is one of its cases

phase-fits : (p : Option Kind) → ltb (phase_number p) 4 ≡ true
phase-fits (Some kind.Start) = refl
phase-fits (Some kind.Trial) = refl
phase-fits (Some kind.Correction) = refl
phase-fits None = refl

rejection_fits : (r : Option Rejection) → ltb (rejection_number r) 5 ≡ true
rejection_fits None = refl
rejection_fits (Some why.NotPositive) = refl
rejection_fits (Some why.Infeasible) = refl
rejection_fits (Some why.Unresolved) = refl
rejection_fits (Some why.NotLower) = refl

last_fits : (l : Option Scalar) → ltb (last_number l) 2 ≡ true
last_fits None = refl
last_fits (Some x) = refl

pub numbers_fit_lem : (st : State) → numbers_fit (c_state_of st) ≡ true
unfolding numbers_fit c_state_of
numbers_fit_lem st = rw (phase-fits st.phase, rejection_fits st.search.rejected, last_fits st.last)

-- ---- the state

pub state_back : (st : State) → state_at (c_state_of st) ≡ st
unfolding state_at c_state_of
state_back st = rw (phase_back st.phase, rejection_back st.search.rejected, last_back st.last)

pub there_and_back : (st : State) → state_of (c_state_of st) ≡ ok st
unfolding state_of
there_and_back st = rw (numbers_fit_lem st, state_back st)

-- ---- the other way: where the numbers fit, and the length of no step is 0, the state's C state is the one it was read
-- from

phase_there : (k : ℕ) → ltb k 4 ≡ true → phase_number (phase_at k) ≡ k
phase_there zero h = refl
phase_there (suc zero) h = refl
phase_there (suc (suc zero)) h = refl
phase_there (suc (suc (suc zero))) h = refl
phase_there (suc (suc (suc (suc k)))) h = omega (arith, ltb-true (suc (suc (suc (suc k)))) 4 h)

rejection_there : (k : ℕ) → ltb k 5 ≡ true → rejection_number (rejection_at k) ≡ k
rejection_there zero h = refl
rejection_there (suc zero) h = refl
rejection_there (suc (suc zero)) h = refl
rejection_there (suc (suc (suc zero))) h = refl
rejection_there (suc (suc (suc (suc zero)))) h = refl
rejection_there (suc (suc (suc (suc (suc k))))) h = omega (arith, ltb-true (suc (suc (suc (suc (suc k))))) 5 h)

last_there : (k : ℕ) (x : Scalar) → ltb k 2 ≡ true → last_number (last_at k x) ≡ k
last_there zero x h = refl
last_there (suc zero) x h = refl
last_there (suc (suc k)) x h = omega (arith, ltb-true (suc (suc k)) 2 h)

length_there : (k : ℕ) (x : Scalar) → (k ≡ 0 → x ≡ zero_s) → last_length (last_at k x) ≡ x
length_there zero x z = sym (z refl)
length_there (suc k) x z = rw (ne_eqb (suc k) 0 (λ e. omega (arith, e)))

pub back_and_there : (r : Run) → numbers_fit r ≡ true → (r.last ≡ 0 → r.last_length ≡ zero_s)
    → c_state_of (state_at r) ≡ r
unfolding numbers_fit state_at c_state_of
back_and_there r e z =
    let p = both (ltb r.phase 4) _ e in
    let q = both (ltb r.rejected 5) _ p.1 in
    rw (
      phase_there r.phase p.0,
      rejection_there r.rejected q.0,
      last_there r.last r.last_length q.1,
      length_there r.last r.last_length z,
    )
