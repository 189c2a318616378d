-- What the calls hand back of the area, the point, and what the checks of a begin say.
use Rattle.run.specs.declared.refusal.Refusal.{Refusal}
use Rattle.run.specs.declared.refusal.Refusal.TheVariants.{OutsideDomain, TooMany, WrongLength}
use Rattle.std.specs.Prelude.{None, Option, Some, Result, Ok, Err}
use Rattle.run.specs.declared.state.Kind.{Kind}
use Prim.Native.Nat.{ℕ, ◌+◌, ◌*◌, ◌≤◌}
use mathlib.Core.Bool.{Bool, true, false, ◌&&◌}
use mathlib.Core.List.{List, []}
use mathlib.Core.Path.{◌≡◌, refl, sym, ap}
use native.Mathlib.Omega.{arith}
use borrow.Author.Tests.{eq-eqb, eqb-true}
use lib.Dec.{eqb, lit<}
use lib.Ieee.{Float}
use lib.ListN.{length}
use Rattle.interval.specs.declared.Scalar.{Scalar}
use Rattle.interval.specs.Scalar.{pick}
use Rattle.run.specs.Area.{area_length, HasRoom, point_at, part_of, numbers_in, indices, point_len}
use Rattle.run.specs.Calls.{AfterCall, checks, unchanged, begun_of, begin_of, point_of}
use Rattle.run.specs.program.Checks.{begin_check}
use Rattle.run.specs.Checks.{sizes_fit, all_in_domain, step_fits, valid}
use Rattle.run.specs.Limits.{VARIABLES}
use Rattle.run.specs.State.{no_run}
use Rattle.run.specs.declared.state.Sizes.{Sizes}
use Rattle.run.specs.declared.state.State.{State}
use Rattle.run.proofs.CheckLaws.{both, size_bounds}
use Rattle.run.proofs.PlaceLaws.{part_inside}

abbrev Checked : Type 0
Checked = Result (Unit {0}) Refusal

abbrev checked_by : Bool → Bool → Bool → Checked
checked_by p q r = pick p (pick q (pick r (Ok tt) (Err OutsideDomain)) (Err WrongLength)) (Err TooMany)

err_ok : {A : Type 0} {k : Refusal} → ◌≡◌ {A = Checked} (Err k) (Ok tt) → A
err_ok e = let z : ◌≡◌ {A = ℕ} 0 1 = cc in absurd (omega arith)

abbrev refusal_in : Refusal → Checked → Refusal
refusal_in k (Ok u) = k
refusal_in k (Err r) = r

-- three checks: the first that is not passed refuses
refused-by : {k : Refusal} (p q r : Bool) (back : Refusal → AfterCall) (next : AfterCall)
    → Err k ≡ checked_by p q r
    → back k ≡ checks p TooMany back (checks q WrongLength back (checks r OutsideDomain back next))
refused-by true true true back next e = err_ok e
refused-by {k} true true false back next e = ap (λ d. back (refusal_in k d)) e
refused-by {k} true false r back next e = ap (λ d. back (refusal_in k d)) e
refused-by {k} false q r back next e = ap (λ d. back (refusal_in k d)) e

passed_by : (p q r : Bool) → Ok tt ≡ checked_by p q r → (p ≡ true) × ((q ≡ true) × (r ≡ true))
passed_by true true true e = (refl, (refl, refl))
passed_by true true false e = err_ok (sym e)
passed_by true false r e = err_ok (sym e)
passed_by false q r e = err_ok (sym e)

-- the checks of a begin
module _ (z : Sizes) (start : List Float) (max : Scalar) (a : List Float) where
  pub begin_refused : {k : Refusal} → Err k ≡ begin_check z start max (length a)
      → unchanged no_run a k ≡ begin_of z start max a
  unfolding begin_of
  begin_refused e =
      refused-by (sizes_fit z) (eqb (length start) (2 * z.n) && eqb (length a) (area_length z))
      (all_in_domain start z.n && step_fits max) (unchanged no_run a) (begun_of z start max) e

  pub begin_lengths : Ok tt ≡ begin_check z start max (length a) → HasRoom z a × (length start ≤ point_len)
  begin_lengths h =
      let p =
      passed_by (sizes_fit z) (eqb (length start) (2 * z.n) && eqb (length a) (area_length z))
      (all_in_domain start z.n && step_fits max) h in
      let b = both (eqb (length start) (2 * z.n)) _ p.1.0 in
      let l : length start ≡ 2 * z.n = eqb-true _ _ b.0 in
      (eqb-true _ _ b.1, omega (arith, l, (size_bounds z p.0).n))

  pub begin_passed : Ok tt ≡ begin_check z start max (length a) → begun_of z start max ≡ begin_of z start max a
  unfolding begin_of
  begin_passed h =
      let p =
      passed_by (sizes_fit z) (eqb (length start) (2 * z.n) && eqb (length a) (area_length z))
      (all_in_domain start z.n && step_fits max) h in
      rw (p.0, p.1.0, p.1.1)

-- ---- the point

-- it is within the area
pub point_inside : (z : Sizes) (p : Option Kind) (a : List Float) → HasRoom z a → z.n ≤ VARIABLES
    → point_at z p + 2 * z.n ≤ length a
point_inside z (Some k) a room few = part_inside z a room (2 * z.n) indices.asked (lit< tt) (omega (arith, few))
point_inside z None a room few = part_inside z a room (2 * z.n) indices.standing (lit< tt) (omega (arith, few))

module _ (st : State) (a : List Float) where
  pub point_at_lem : (p : Option Kind) → valid st ≡ true → HasRoom st.sizes a → st.phase ≡ p
      → part_of a (point_at st.sizes p) (numbers_in st).standing ≡ point_of st a
  unfolding point_of
  point_at_lem p v l e =
      rw (v, eq-eqb _ _ l)
      (ap (λ q. part_of a (point_at st.sizes q) (numbers_in st).standing) (sym e))

  pub point_none : (valid st && eqb (length a) (area_length st.sizes)) ≡ false → [] ≡ point_of st a
  unfolding point_of
  point_none e = rw e
