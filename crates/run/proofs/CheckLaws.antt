-- What the checks tell: the bounds of a run that passes number 4's test, and a reply where its checks refuse it and
-- where they accept it.
use Rattle.run.specs.declared.refusal.Refusal.{Refusal}
use Rattle.run.specs.declared.refusal.Refusal.TheVariants.{TooMany, WrongLength, OutsideDomain, Altered}
use Rattle.std.specs.Prelude.{None, Option, Some}
use Prim.Native.Nat.{ℕ, ◌+◌, ◌*◌, ◌<◌, ◌≤◌}
use mathlib.Core.Bool.{Bool, true, false, ◌&&◌}
use mathlib.Core.List.{List}
use mathlib.Core.Logic.{◌≢◌}
use mathlib.Core.Path.{◌≡◌, refl, sym, ap, ◌∙◌}
use native.Mathlib.Nat.{mul-le-mul}
use native.Mathlib.Omega.{arith}
use borrow.Author.Tests.{leb-true, ltb-true, eqb-true, le-leb, eq-eqb, ne_eqb}
use lib.Dec.{leb, ltb, eqb}
use lib.Ieee.{Float}
use lib.ListN.{length}
use Rattle.interval.specs.Scalar.{pick}
use Rattle.interval.specs.Scaling.{is_positive}
use Rattle.run.specs.Rows.{row_numbers, row_counts}
use Rattle.run.specs.Limits.{CONSTRAINTS, CORRECTIONS}
use Rattle.run.specs.Area.{memory_of, area_length}
use Rattle.run.specs.Answered.{answered, answered_none}
use Rattle.run.specs.Checks.{sizes_fit, constraints_fit, contents_fit, counts_fit, phase_fits, valid, all_in_domain}
use Rattle.run.specs.Checks.{most_turn_downs, most_questions}
use Rattle.run.specs.Calls.{AfterCall, unchanged, in_area, checks, reply_open, reply_of, none_open, reply_none_of}
use Rattle.run.specs.Endings.{AfterSlots}
use Rattle.run.specs.program.Checks.{open_in, open_of, then_check, area_check, check_of, rows_check, check_rows_of}
use Rattle.std.specs.Prelude.{Result, Ok, Err}
use Rattle.run.specs.declared.state.Contents.{Contents}
use Rattle.run.specs.declared.state.Kind.{Kind}
use Rattle.run.specs.declared.state.Kind.TheVariants as kind
use Rattle.run.specs.declared.state.Sizes.{Sizes}
use Rattle.run.specs.declared.state.State.{State}
use Rattle.run.proofs.Booleans.{and_left, and_right}

pub both : (a b : Bool) → (a && b) ≡ true → (a ≡ true) × (b ≡ true)
both a b e = (and_left a b e, and_right a b e)

-- what the second of two decides
and_false : (a : Bool) {b : Bool} → b ≡ false → (a && b) ≡ false
and_false true e = e
and_false false e = refl

and_true : (a : Bool) {b : Bool} → b ≡ true → (a && b) ≡ a
and_true true e = e
and_true false e = refl

-- a comparison with what a call answers, as one with what it is
pub compared_same : {x r k : ℕ} → r ≡ k → x ≡ r → eqb x k ≡ true
compared_same e h = eq-eqb _ _ (h ∙ e)

pub compared_other : {x r k : ℕ} → r ≡ k → x ≢ r → eqb x k ≡ false
compared_other e n = ne_eqb _ _ (λ h. n (h ∙ sym e))

-- ---- the bounds of a run

pub record SizeBounds (z : Sizes) : Type 0 where
  pub n : z.n ≤ 12
  pub s : z.s ≤ 24
  pub limit : z.limit ≤ 200

pub size_bounds : (z : Sizes) → sizes_fit z ≡ true → SizeBounds z
size_bounds z e =
    let a = both (leb z.n 12) _ e in
    let d = both (leb z.s 24) _ a.1 in
    record { n = leb-true _ _ a.0; s = leb-true _ _ d.0; limit = leb-true _ _ d.1 }

-- of each m that a state keeps
pub record ContentBounds (c : Contents) : Type 0 where
  pub standing : c.standing_m ≤ CONSTRAINTS
  pub landed : c.landed_m ≤ CONSTRAINTS

pub content_bounds : (c : Contents) → contents_fit c ≡ true → ContentBounds c
content_bounds c e =
    let a = both (constraints_fit c.standing_m) _ e in
    record { standing = leb-true _ _ a.0; landed = leb-true _ _ a.1 }

pub contents-fit : {c : Contents} → ContentBounds c → contents_fit c ≡ true
contents-fit b = rw (le-leb _ _ b.standing, le-leb _ _ b.landed)

pub record Bounds (st : State) : Type 0 where
  pub sizes : SizeBounds st.sizes
  pub contents : ContentBounds st.contents
  pub iterations : st.counts.iterations ≤ st.sizes.limit
  pub turned_down : st.search.turned_down ≤ most_turn_downs st
  pub question : st.counts.question ≤ most_questions st.sizes
  pub corrections : st.counts.corrections ≤ CORRECTIONS
  pub phase : phase_fits st st.phase ≡ true

pub bounds : (st : State) → valid st ≡ true → Bounds st
unfolding valid
bounds st e =
    let a = both (sizes_fit st.sizes) _ e in
    let d = both (contents_fit st.contents) _ a.1 in
    let b = both (counts_fit st) _ d.1 in
    let i = both (leb st.counts.iterations st.sizes.limit) _ b.0 in
    let t = both (leb st.search.turned_down (most_turn_downs st)) _ i.1 in
    let q = both (leb st.counts.question (most_questions st.sizes)) _ t.1 in
    record {
      sizes = size_bounds st.sizes a.0;
      contents = content_bounds st.contents d.0;
      iterations = leb-true _ _ i.0;
      turned_down = leb-true _ _ t.0;
      question = leb-true _ _ q.0;
      corrections = leb-true _ _ q.1;
      phase = b.1;
    }

module _ (st : State) where
  mu_in : (k : Kind) → phase_fits st (Some k) ≡ true → is_positive st.search.mu ≡ true
  mu_in kind.Start e = e
  mu_in kind.Trial e = (both (ltb st.counts.iterations st.sizes.limit) _ e).1
  mu_in kind.Correction e = (both (ltb st.counts.iterations st.sizes.limit) _ e).1

  -- with a question open the damping is positive
  pub open_mu : (k : Kind) → valid st ≡ true → st.phase ≡ Some k → is_positive st.search.mu ≡ true
  open_mu k v e = mu_in k (ap (phase_fits st) (sym e) ∙ (bounds st v).phase)

  below : ltb st.counts.iterations st.sizes.limit && is_positive st.search.mu ≡ true
      → st.counts.iterations < st.sizes.limit
  below e = ltb-true _ _ (both (ltb st.counts.iterations st.sizes.limit) _ e).0

  -- and with a trial or a correction open iterations are below the limit
  pub trial_below : valid st ≡ true → st.phase ≡ Some kind.Trial → st.counts.iterations < st.sizes.limit
  trial_below v e = below (ap (phase_fits st) (sym e) ∙ (bounds st v).phase)

  pub correction_below : valid st ≡ true → st.phase ≡ Some kind.Correction → st.counts.iterations < st.sizes.limit
  correction_below v e = below (ap (phase_fits st) (sym e) ∙ (bounds st v).phase)

-- how many scalars rows have
pub few_scalars : {n m s : ℕ} → n ≤ 12 → m ≤ 12 → s ≤ 24 → (m + s) * (n + 1) ≤ 468
few_scalars {n} {m} {s} a b d =
    let h : m + s ≤ 36 = omega arith in
    let k : n + 1 ≤ 13 = omega arith in
    mul-le-mul h k

-- a check, passed or not
pub checked :
    (P : AfterCall → Type 0) (b : Bool) (k : Refusal) (back : Refusal → AfterCall) (next : AfterCall) →
    P (back k) → (b ≡ true → P next) → P (checks b k back next)
checked P true k back next p h = h refl
checked P false k back next p h = p

-- ---- what is accepted

refuse_accept : {A : Type 0} {j : Refusal} {k : Kind} → ◌≡◌ {A = Result Kind Refusal} (Err j) (Ok k) → A
refuse_accept e = let z : ◌≡◌ {A = ℕ} 0 1 = cc in absurd (omega arith)

abbrev Checked : Type 0
Checked = Result Kind Refusal

-- a check that is passed
passed : (b : Bool) (next : Checked) (j : Refusal) {k : Kind} → pick b next (Err j) ≡ Ok k
    → (b ≡ true) × (next ≡ Ok k)
passed true next j e = (refl, e)
passed false next j e = refuse_accept e

abbrev kind_in : Checked → Kind
kind_in (Err k) = kind.Start
kind_in (Ok k) = k

-- a question is open in a run that is not altered
open_accepted : (st : State) {k : Kind} → open_of st ≡ Ok k → (valid st ≡ true) × (st.phase ≡ Some k)
unfolding open_of
open_accepted st {k} e =
    let a = passed (valid st) (open_in st.phase) Altered e in
    (a.0, by st.phase a.1)
  where
    by : (p : Option Kind) → open_in p ≡ Ok k → p ≡ Some k
    by None x = refuse_accept x
    by (Some j) x = ap Some (ap kind_in x)

pub open_sizes : (st : State) {k : Kind} → open_of st ≡ Ok k → SizeBounds st.sizes
open_sizes st e = (bounds st (open_accepted st e).0).sizes

-- reply none
pub record Accepted (st : State) (area : ℕ) (k : Kind) : Type 0 where
  pub run : valid st ≡ true
  pub opened : st.phase ≡ Some k
  pub whole : area ≡ area_length st.sizes

module _ (st : State) (area : ℕ) (k : Kind) where
  in-area : open_of st ≡ Ok k → eqb area (area_length st.sizes) ≡ true → Accepted st area k
  in-area h e =
      let o = open_accepted st h in
      record { run = o.0; opened = o.1; whole = eqb-true _ _ e }

  then_accepted : (d : Checked) → open_of st ≡ d → then_check d (area_check st.sizes area) ≡ Ok k
      → Accepted st area k
  then_accepted (Err j) h x = refuse_accept x
  then_accepted (Ok j) h x =
      let b = passed (eqb area (area_length st.sizes)) (Ok j) WrongLength x in
      in-area (h ∙ b.1) b.0

  pub accepted : check_of st area ≡ Ok k → Accepted st area k
  unfolding check_of
  accepted e = then_accepted (open_of st) refl e

-- a reply with rows
pub record AcceptedRows (st : State) (area m : ℕ) (rows : List Float) (k : Kind) : Type 0 where
  pub reply : Accepted st area k
  pub few : m ≤ CONSTRAINTS
  pub full : length rows ≡ row_numbers (row_counts st.sizes m)
  pub inside : all_in_domain rows ((m + st.sizes.s) * (st.sizes.n + 1)) ≡ true

module _ (st : State) (area m : ℕ) (rows : List Float) (k : Kind) where
  then_rows : (d : Checked) → open_of st ≡ d → then_check d (rows_check st.sizes area m rows) ≡ Ok k
      → AcceptedRows st area m rows k
  then_rows (Err j) h x = refuse_accept x
  then_rows (Ok j) h x =
      let whole = eqb area (area_length st.sizes) in
      let a = passed (constraints_fit m) _ TooMany x in
      let b = passed (whole && eqb (length rows) (row_numbers (row_counts st.sizes m))) _ WrongLength a.1 in
      let d = passed (all_in_domain rows ((m + st.sizes.s) * (st.sizes.n + 1))) (Ok j) OutsideDomain b.1 in
      let l = both whole _ b.0 in
      record {
        reply = in-area st area k (h ∙ d.1) l.0;
        few = leb-true _ _ a.0;
        full = eqb-true _ _ l.1;
        inside = d.0;
      }

  pub accepted_rows : check_rows_of st area m rows ≡ Ok k → AcceptedRows st area m rows k
  unfolding check_rows_of
  accepted_rows e = then_rows (open_of st) refl e

-- ---- a reply, after its checks

module _ (st : State) (a : List Float) (next : Kind → AfterSlots) where
  abbrev after : Checked → AfterCall
  after (Err j) = unchanged st a j
  after (Ok k) = in_area (next k)

  -- a check that follows, and the first
  check_as : (b : Bool) (j : Refusal) (x : AfterCall) (r : Checked) → x ≡ after r
      → checks b j (unchanged st a) x ≡ after (pick b r (Err j))
  check_as true j x r e = e
  check_as false j x r e = refl

  open_as : (b : Bool) (x : AfterCall) (p : Option Kind) (f : Kind → Checked) → x ≡ after (then_check (open_in p) f)
      → checks b Altered (unchanged st a) x ≡ after (then_check (pick b (open_in p) (Err Altered)) f)
  open_as true x p f e = e
  open_as false x p f e = refl

module _ (st : State) (a : List Float) where
  abbrev next_none : Kind → AfterSlots
  next_none k = answered_none k st (memory_of st a)

  abbrev after_none : Checked → AfterCall
  after_none r = after st a next_none r

  none_checked : reply_none_of st a ≡ after_none (check_of st (length a))
  unfolding reply_none_of check_of open_of
  none_checked =
      open_as st a next_none (valid st) _ st.phase (area_check st.sizes (length a)) (opened st.phase)
    where
      opened : (p : Option Kind)
          → none_open st a p ≡ after_none (then_check (open_in p) (area_check st.sizes (length a)))
      opened None = refl
      opened (Some k) =
          check_as st a next_none (eqb (length a) (area_length st.sizes)) WrongLength _ (Ok k) refl

  pub none_refused : (k : Refusal) → check_of st (length a) ≡ Err k → reply_none_of st a ≡ unchanged st a k
  none_refused k e = none_checked ∙ ap after_none e

  pub none_accepted : (k : Kind) → check_of st (length a) ≡ Ok k
      → reply_none_of st a ≡ in_area (answered_none k st (memory_of st a))
  none_accepted k e = none_checked ∙ ap after_none e

module _ (st : State) (a : List Float) (m : ℕ) (rows : List Float) where
  abbrev next_rows : Kind → AfterSlots
  next_rows k = answered k st (memory_of st a) m rows

  abbrev after_rows : Checked → AfterCall
  after_rows r = after st a next_rows r

  rows_checked : reply_of st a m rows ≡ after_rows (check_rows_of st (length a) m rows)
  unfolding reply_of check_rows_of open_of
  rows_checked =
      open_as st a next_rows (valid st) _ st.phase (rows_check st.sizes (length a) m rows) (opened st.phase)
    where
      opened : (p : Option Kind)
          → reply_open st a m rows p ≡ after_rows (then_check (open_in p) (rows_check st.sizes (length a) m rows))
      opened None = refl
      opened (Some k) =
          let c = row_counts st.sizes m in
          let whole = eqb (length a) (area_length st.sizes) in
          check_as st a next_rows (constraints_fit m) TooMany _ _
          (check_as st a next_rows (whole && eqb (length rows) (row_numbers c)) WrongLength _ _
          (check_as st a next_rows (all_in_domain rows ((c.m + c.s) * (c.n + 1))) OutsideDomain _ (Ok k) refl))

  pub rows_refused : (k : Refusal) → check_rows_of st (length a) m rows ≡ Err k → reply_of st a m rows ≡ unchanged st a k
  rows_refused k e = rows_checked ∙ ap after_rows e

  pub rows_accepted : (k : Kind) → check_rows_of st (length a) m rows ≡ Ok k
      → reply_of st a m rows ≡ in_area (answered k st (memory_of st a) m rows)
  rows_accepted k e = rows_checked ∙ ap after_rows e
