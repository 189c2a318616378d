-- Demand 3: begin makes the invariant true, each call keeps it and makes its claim, so the claim holds along every list
-- of calls. A call that is refused by number changes nothing.
use Rattle.run.specs.declared.refusal.Refusal.{Refusal}
use Rattle.run.specs.declared.refusal.Refusal.TheVariants.{Altered, OutsideDomain, TooMany, WrongLength}
use Rattle.std.specs.Prelude.{None, Option, Some}
use Rattle.run.specs.declared.state.Kind.{Kind}
use Prim.Native.Nat.{ℕ, ◌+◌, ◌*◌, zero-le}
use mathlib.Core.Bool.{true, false, not, cond, ◌&&◌}
use mathlib.Core.Logic.{⊎_elim}
use mathlib.Core.Path.{◌≡◌, refl, sym, ap, ◌∙◌, subst}
use mathlib.Core.List.{List, [], ◌∷◌}
use native.Mathlib.Omega.{arith}
use borrow.Author.Tests.{leb-true, eq-eqb, eqb-true}
use lib.Dec.{eqb}
use lib.Ieee.{Float}
use lib.ListN.{length}
use Rattle.interval.specs.declared.Scalar.{Scalar}
use Rattle.run.specs.Rows.{row_numbers, row_counts}
use Rattle.run.specs.Area.{area_length, Memory, memory_of, area_of, begun_memory}
use Rattle.run.specs.Calls.{AfterCall, unchanged, begin_of, reply_open, reply_of, none_open, reply_none_of}
use Rattle.run.specs.Checks.{sizes_fit, constraints_fit, all_in_domain, step_fits, valid}
use Rattle.run.specs.Limits.{CONSTRAINTS}
use Rattle.run.specs.State.{state_with, no_run}
use Rattle.run.specs.Damping.{first_mu}
use Rattle.run.specs.Demand.{
  same,
  other,
  Floats,
  Call,
  rows,
  none,
  Allowed,
  Run,
  run_of,
  CallResult,
  call_result_by,
  call_result,
  AnsweredRows,
  History,
  next_mu,
  begun,
  entered,
  changed,
  is_arithmetic,
  answer,
  Fitting,
  Claim,
  Along,
  Demand3,
}
use Rattle.run.specs.declared.state.Event.TheVariants as event
use Rattle.run.specs.declared.state.Kind.TheVariants as kind
use Rattle.run.specs.declared.state.Sizes.{Sizes}
use Rattle.run.proofs.AreaRead.{area_long, memory_back}
use Rattle.run.proofs.Booleans.{clash, and_left, and_right}
use Rattle.run.proofs.CheckLaws.{size_bounds, checked}
use Rattle.run.proofs.Cleared.{reply_kept, reply_none_kept, begun_lengths, begun_limits}
use Rattle.run.proofs.DampingGrowth.{growth_begin, growth_positive}
use Rattle.run.proofs.demand3.ExactLaws.{ExactLaws}
use Rattle.run.proofs.demand3.Invariant.{Sound, Phased, Inv}
use Rattle.run.proofs.demand3.Endings.{sound_valid, inv_between, asked_given}
use Rattle.run.proofs.Domains.{domain_rows}
use Rattle.run.proofs.demand3.ExactSums.{exact_laws}
use Rattle.run.proofs.demand3.Answered.{rows_kept, none_kept}

-- ---- one call

-- what a call leaves, unless its answer is 5 or 6
abbrev Kept : History → Run → Call → CallResult → Type 0
Kept h r c p =
    let h' = entered h r c p in
    is_arithmetic p.event ≡ false → Inv r.state.sizes h' p.run × Claim r.state.sizes h h' r p

-- a refusal that changes nothing
abbrev refused_by : Run → Refusal → CallResult
refused_by r k = record { event = event.Refused k; run = r }

-- it enters nothing
entered_refused : (h : History) (r : Run) (c : Call) (k : Refusal) → entered h r c (refused_by r k) ≡ h
entered_refused h r c k = by c
  where
    here : eqb h.standing h.standing ≡ true
    here = eq-eqb h.standing h.standing refl

    as_before :
        (rows' : ℕ → AnsweredRows) →
        rows' ≡ h.rows →
        ◌≡◌ {A = History}
        (record {
          standing = h.standing;
          asked = h.asked;
          changes = h.changes + cond (not (eqb h.standing h.standing)) 1 0;
          stood = cond (not (eqb h.standing h.standing)) (h.standing ∷ h.stood) h.stood;
          rows = rows';
          points = h.points;
          mu = cond (not (eqb h.standing h.standing)) (next_mu r.state.search.mu) h.mu;
        })
        h
    as_before rows' e =
        rw (here, e)
        (let n : h.changes + 0 ≡ h.changes = omega arith in
        ap
        (λ (c : ℕ).
        record {
          standing = h.standing;
          asked = h.asked;
          changes = c;
          stood = h.stood;
          rows = h.rows;
          points = h.points;
          mu = h.mu;
        })
        n)

    by : (c : Call) → entered h r c (refused_by r k) ≡ h
    by (rows lent m xs f) = as_before (λ n. h.rows n) refl
    by (none lent) = as_before (λ n. h.rows n) refl

refused_kept :
    (h : History) (r : Run) (c : Call) (k : Refusal) →
    Inv r.state.sizes h r →
    Inv r.state.sizes (entered h r c (refused_by r k)) r
    × Claim r.state.sizes h (entered h r c (refused_by r k)) r (refused_by r k)
refused_kept h r c k v =
    let stays : changed h (event.Refused k) ≡ false = ap not (eq-eqb h.standing h.standing refl) in (
      subst (λ (m : History). Inv r.state.sizes m r) (sym (entered_refused h r c k)) v,
      record {
        reported = λ s i t n p. absurd (let z : ◌≡◌ {A = ℕ} 0 1 = cc in omega arith);
        finish_point = λ s i t n p. absurd (let z : ◌≡◌ {A = ℕ} 0 1 = cc in omega arith);
        answered = λ t. clash (changed h (event.Refused k)) t stays;
        forward = λ t. clash (changed h (event.Refused k)) t stays;
      },
    )

module _ (law : ExactLaws) (h : History) (r : Run) (v : Inv r.state.sizes h r) where
  -- what is refused by number
  refused_same : (c : Call) (k : Refusal) → Kept h r c (call_result_by (unchanged r.state r.area k) r.area)
  refused_same c k q = refused_kept h r c k v

  refused_other :
      (c : Call) (a : List Float) (k : Refusal) → Kept h r c (call_result_by (unchanged r.state a k) r.area)
  refused_other c a k q = refused_kept h r c k v

  Ends : Call → AfterCall → Type 0
  Ends c left = Kept h r c (call_result_by left left.area)

  EndsOther : Call → AfterCall → Type 0
  EndsOther c left = Kept h r c (call_result_by left r.area)

  rows_open :
      (m : ℕ) (xs : List Float) (f : Floats xs) →
      valid r.state ≡ true →
      (p : Option Kind) → r.state.phase ≡ p → Phased h r p →
      Ends (rows same m xs f) (reply_open r.state r.area m xs p)
  unfolding Ends
  rows_open m xs f e None o q = refused_same (rows same m xs f) Altered
  rows_open m xs f e (Some k) o q =
      let z = r.state.sizes in
      let fits = eqb (length r.area) (area_length z) in
      let count = row_numbers (row_counts z m) in
      checked (Ends (rows same m xs f)) (constraints_fit m) TooMany (unchanged r.state r.area) _
      (refused_same (rows same m xs f) TooMany)
      (λ few.
      checked (Ends (rows same m xs f)) (fits && eqb (length xs) count) WrongLength (unchanged r.state r.area) _
      (refused_same (rows same m xs f) WrongLength)
      (λ lengths.
      let long = eqb-true (length r.area) (area_length z) (and_left fits (eqb (length xs) count) lengths) in
      let size = eqb-true (length xs) count (and_right fits (eqb (length xs) count) lengths) in
      checked (Ends (rows same m xs f)) (all_in_domain xs ((m + z.s) * (z.n + 1))) OutsideDomain (unchanged r.state r.area) _
      (refused_same (rows same m xs f) OutsideDomain)
      (λ d g.
      let fit : Fitting z (answer m xs) =
      record { few = leb-true m CONSTRAINTS few; length_is = size; in-domain = d } in
      rows_kept law h r v.sound v.counted v.point k q (answer m xs) f
      (record { fitting = fit; good = domain_rows z (answer m xs) f fit }) g
      (reply_kept r.state r.area e long m fit.few xs size k o).lengths)))

  none_open_lem :
      valid r.state ≡ true →
      (p : Option Kind) → r.state.phase ≡ p → Phased h r p → Ends (none same) (none_open r.state r.area p)
  unfolding Ends
  none_open_lem e None o q = refused_same (none same) Altered
  none_open_lem e (Some k) o q =
      let whole = area_length r.state.sizes in
      checked (Ends (none same)) (eqb (length r.area) whole) WrongLength (unchanged r.state r.area) _
      (refused_same (none same) WrongLength)
      (λ long g.
      none_kept law h r v.sound v.counted v.point k q g
      (reply_none_kept r.state r.area e (eqb-true (length r.area) whole long) k o).lengths)

  -- a call that is refused for its m or a length
  rows_other :
      (a : List Float) (m : ℕ) (xs : List Float) (f : Floats xs) →
      Allowed r.state.sizes (rows (other a) m xs f) →
      (p : Option Kind) → EndsOther (rows (other a) m xs f) (reply_open r.state a m xs p)
  unfolding EndsOther
  rows_other a m xs f x None = refused_other (rows (other a) m xs f) a Altered
  rows_other a m xs f x (Some k) =
      let z = r.state.sizes in
      let count = row_numbers (row_counts z m) in
      let fits = eqb (length a) (area_length z) in
      let long = eqb (length xs) count in
      checked (EndsOther (rows (other a) m xs f)) (constraints_fit m) TooMany (unchanged r.state a) _
      (refused_other (rows (other a) m xs f) a TooMany)
      (λ few.
      checked (EndsOther (rows (other a) m xs f)) (fits && long) WrongLength (unchanged r.state a) _
      (refused_other (rows (other a) m xs f) a WrongLength)
      (λ e.
      absurd
      (⊎_elim (λ l. omega (arith, l, leb-true m CONSTRAINTS few))
      (λ y.
      ⊎_elim (λ n. n (eqb-true (length a) (area_length z) (and_left fits long e)))
      (λ n. n (eqb-true (length xs) count (and_right fits long e))) y)
      x)))

  none_other :
      (a : List Float) →
      Allowed r.state.sizes (none (other a)) →
      (p : Option Kind) → EndsOther (none (other a)) (none_open r.state a p)
  unfolding EndsOther
  none_other a x None = refused_other (none (other a)) a Altered
  none_other a x (Some k) =
      let whole = area_length r.state.sizes in
      checked (EndsOther (none (other a))) (eqb (length a) whole) WrongLength (unchanged r.state a) _
      (refused_other (none (other a)) a WrongLength) (λ e. absurd (x (eqb-true (length a) whole e)))

  call_kept : (c : Call) → Allowed r.state.sizes c → Kept h r c (call_result r c)
  unfolding reply_of reply_none_of Ends EndsOther
  call_kept (rows same m xs f) x =
      checked (Ends (rows same m xs f)) (valid r.state) Altered (unchanged r.state r.area) _
      (refused_same (rows same m xs f) Altered) (λ e. rows_open m xs f e r.state.phase refl v.phased)
  call_kept (rows (other a) m xs f) x =
      checked (EndsOther (rows (other a) m xs f)) (valid r.state) Altered (unchanged r.state a) _
      (refused_other (rows (other a) m xs f) a Altered) (λ e. rows_other a m xs f x r.state.phase)
  call_kept (none same) x =
      checked (Ends (none same)) (valid r.state) Altered (unchanged r.state r.area) _
      (refused_same (none same) Altered) (λ e. none_open_lem e r.state.phase refl v.phased)
  call_kept (none (other a)) x =
      checked (EndsOther (none (other a))) (valid r.state) Altered (unchanged r.state a) _
      (refused_other (none (other a)) a Altered) (λ e. none_other a x r.state.phase)

-- ---- all calls

pub call_step :
    (law : ExactLaws) (z : Sizes) (h : History) (r : Run) (c : Call) →
    Inv z h r →
    Allowed z c →
    is_arithmetic (call_result r c).event ≡ false →
    Inv z (entered h r c (call_result r c)) (call_result r c).run
    × Claim z h (entered h r c (call_result r c)) r (call_result r c)
call_step law z h r c v x q =
    let own : Inv r.state.sizes h r = subst (λ (y : Sizes). Inv y h r) (sym v.sizes_are) v in
    let allowed : Allowed r.state.sizes c = subst (λ (y : Sizes). Allowed y c) (sym v.sizes_are) x in
    subst
    (λ (y : Sizes).
    Inv y (entered h r c (call_result r c)) (call_result r c).run
    × Claim y h (entered h r c (call_result r c)) r (call_result r c))
    v.sizes_are (call_kept law h r own c allowed q)

along : (law : ExactLaws) (z : Sizes) (cs : List Call) (h : History) (r : Run) → Inv z h r → Along z h r cs
unfolding Along
along law z [] h r v = inv_between z h r v
along law z (c ∷ cs) h r v = (
  inv_between z h r v,
  λ x q.
      let w = call_step law z h r c v x q in
      (w.1, along law z cs (entered h r c (call_result r c)) (call_result r c).run w.0),
)

-- ---- begin

module _ (z : Sizes) (start : List Float) (max : Scalar) (fit : sizes_fit z ≡ true)
    (size : length start ≡ 2 * z.n) where
  abbrev begins : Run
  begins = record { state = state_with z first_mu max (Some kind.Start); area = area_of z (begun_memory start) }

  begun_sound : Sound begins.state
  begun_sound =
      record {
        sizes-fit = fit;
        contents-fit = refl;
        within = zero-le;
        few_turned = zero-le;
        few_asked = zero-le;
        few_corrections = zero-le;
        phase-fits = growth_positive growth_begin;
      }

  -- the start stands as it is asked
  begun_point : (memory_of begins.state begins.area).standing ≡ (begun begins).points 0
  begun_point =
      let st = begins.state in
      let w = begun_memory start in
      let l = begun_limits z start max (size_bounds z fit) in
      let e = begun_lengths z start max size in
      let back = memory_back st w l e in
      ap (λ (m : Memory). m.standing) back ∙ sym (ap (λ (m : Memory). m.asked) back)
      ∙ sym (asked_given st begins.area (sound_valid st begun_sound) (area_long st w l e) refl)

  begun_holds : Inv z (begun begins) begins
  begun_holds =
      record {
        sizes_are = refl;
        sound = begun_sound;
        counted = refl;
        point = begun_point;
        phased = record {
          changes_are = refl;
          asked_is = refl;
          standing_is = refl;
          stood_is = refl;
          own_standing = refl;
          count_bounds = record {
            growths = 0;
            growth = growth_begin;
            fresh = λ e. refl;
            turned = zero-le;
            few = zero-le;
          };
        };
      }

pub begin_holds :
    (z : Sizes) (start : List Float) (max : Scalar) (a : List Float) →
    let b = begin_of z start max a in
    b.event ≡ event.Question 0 kind.Start 0 → Inv z (begun (run_of b)) (run_of b)
unfolding begin_of
begin_holds z start max a =
    let sized = eqb (length start) (2 * z.n) in
    checked Accepted (sizes_fit z) TooMany (unchanged no_run a) _ (not_asked TooMany)
    (λ fit.
    checked Accepted (sized && eqb (length a) (area_length z)) WrongLength (unchanged no_run a) _ (not_asked WrongLength)
    (λ g.
    checked Accepted (all_in_domain start z.n && step_fits max) OutsideDomain (unchanged no_run a) _ (not_asked OutsideDomain)
    (λ d q.
    begun_holds z start max fit
    (eqb-true (length start) (2 * z.n) (and_left sized (eqb (length a) (area_length z)) g)))))
  where
    Accepted : AfterCall → Type 0
    Accepted b = b.event ≡ event.Question 0 kind.Start 0 → Inv z (begun (run_of b)) (run_of b)

    not_asked : (k : Refusal) → Accepted (unchanged no_run a k)
    not_asked k q = absurd (let z : ◌≡◌ {A = ℕ} 0 1 = cc in omega arith)

pub demand3_from : ExactLaws → Demand3
demand3_from law z start max a q cs =
    let b = run_of (begin_of z start max a) in
    along law z cs (begun b) b (begin_holds z start max a q)

pub demand3 : Demand3
demand3 = demand3_from exact_laws
