-- A run of a sheet: what a reply to a question is, what the loop leaves, and that what is printed does not depend on
-- the area that is lent.
use Rattle.run.specs.Refusal.{number_of}
use Rattle.run.specs.declared.refusal.Refusal.{Refusal}
use Rattle.run.specs.declared.refusal.Refusal.TheVariants.{OutsideDomain, TooMany, WrongLength}
use Prim.Native.Nat.{ℕ, zero, suc, ◌+◌, ◌-◌, ◌*◌, ◌<◌, ◌≤◌}
use mathlib.Core.Bool.{Bool, true, false, ◌&&◌}
use mathlib.Core.List.{List, [], ◌∷◌, ◌++◌}
use mathlib.Core.Logic.{◌⊎◌, inl, inr, ⊎_elim, ◌≢◌}
use mathlib.Core.Path.{◌≡◌, refl, sym, ap, ap₂, ◌∙◌}
use native.Mathlib.Nat.{mul-le-mul}
use native.Mathlib.Omega.{arith}
use borrow.Author.Tests.{eqb-true, eq-eqb, ne_eqb}
use lib.Dec.{eqb}
use lib.Ieee.{Float}
use lib.IntN.{pos}
use lib.ListN.{length, get_or, take, drop, length-replicate}
use lib.Seq.{get_or-take}
use Rattle.interval.specs.Result.{ok}
use Rattle.interval.specs.Scalar.{zero64, from_i64, pick}
use Rattle.interval.specs.declared.Scalar.{Scalar}
use Rattle.linear.specs.Flat.{put, list_to, zeros}
use Rattle.linear.proofs.FlatLaws.{length_put}
use Rattle.linear.proofs.Lists.{list_to-none, list_to-more, list_to-all}
use Rattle.run.specs.Area as Area
use Rattle.run.specs.Area.{area_length, part_of, numbers_in}
use Rattle.run.specs.Calls.{AfterCall, after_call, unchanged, checks, begun_of, begin_of, reply_of, reply_none_of, point_of}
use Rattle.run.specs.Calls.{refused_by_check}
use Rattle.run.specs.Checks.{sizes_fit, all_in_domain, step_fits, valid}
use Rattle.run.specs.Limits.{AREA}
use Rattle.run.specs.Questions.{is_question}
use Rattle.run.specs.State.{no_run}
use Rattle.run.specs.declared.state.Event.{Event}
use Rattle.run.specs.declared.state.Event.TheVariants.{Question, Finish, Refused}
use Rattle.run.specs.declared.state.Returned.{Returned}
use Rattle.run.specs.declared.state.Sizes.{Sizes}
use Rattle.run.specs.declared.state.State.{State}
use Rattle.run.proofs.CheckLaws.{bounds}
use Rattle.run.proofs.Cleared.{reply_leaves}
use Rattle.std.specs.Prelude.{Result}
use Rattle.sheet.specs.Printing.{SLOT, padded}
use Rattle.sheet.specs.Rows.{rows_of}
use Rattle.sheet.specs.Settling.{is_outside, answer_of, answers_to, printed_event, printed_of, point_at, sizes_of}
use Rattle.sheet.specs.Settling.{most_replies, settled_of, printed_sheet, print_of, after_text, settle_text_of}
use Rattle.sheet.specs.Sheet.{Sheet, read_of}
use Rattle.sheet.specs.program.Settling.{Settles, InRange, reply_to}
use Rattle.sheet.specs.program.Sheet.{coordinates_in, sheet_by, whole_sheet_in}
use Rattle.sheet.specs.declared.sheet.Sheet as declared
use Rattle.sheet.specs.declared.fault.Fault.{Fault}
use Rattle.sheet.specs.declared.sheet.Points.{Points}

-- ---- one reply

outside_refused : (e : Event) → is_outside e ≡ true → refused_by_check e ≡ true
outside_refused (Question k t s) h = cc
outside_refused (Finish e i t s) h = cc
outside_refused (Refused r) h = rw (eqb-true (number_of r) 3 h) refl

module _ (s : Sheet) (aims : List Float) (st : State) (a rows : List Float) {m : ℕ} {l : AfterCall}
    (r : rows ≡ rows_of (length s.coordinates) s.rules (point_of st a) aims) (each : m ≡ length s.rules)
    (e : l ≡ reply_of st a m rows) where
  chosen : reply_to s aims st a ≡ pick (is_outside l.event) (reply_none_of st a) l
  unfolding answer_of
  chosen = rw (e, r, each) refl

  pub answer_rows : is_outside l.event ≡ false → l ≡ reply_to s aims st a
  answer_rows h = sym (chosen ∙ ap (λ (b : Bool). pick b (reply_none_of st a) l) h)

  -- what was refused left the area as it was
  pub answer_none : is_outside l.event ≡ true → reply_none_of st l.area ≡ reply_to s aims st a
  answer_none h =
      let f : is_outside (reply_of st a m rows).event ≡ true = rw e at h in
      let k : (reply_of st a m rows).area ≡ a =
      ((reply_leaves st a m rows).unchanged (outside_refused (reply_of st a m rows).event f)).1 in
      ap (λ (x : List Float). reply_none_of st x) (ap (λ (y : AfterCall). y.area) e ∙ k)
      ∙ sym (chosen ∙ ap (λ (b : Bool). pick b (reply_none_of st a) l) h)

-- ---- the point

take_most : {A : Type 0} (n : ℕ) (xs : List A) → length (take n xs) ≤ n
take_most zero xs = omega arith
take_most (suc n) [] = omega arith
take_most (suc n) (x ∷ xs) = let h = take_most n xs in omega arith

-- at most 12 variables
pub point_few : (st : State) (a : List Float) → length (point_of st a) ≤ 24
unfolding point_of
point_few st a = by (valid st) refl (eqb (length a) (area_length st.sizes))
  where
    by : (v : Bool) → valid st ≡ v → (w : Bool)
        → length (pick (v && w) (part_of a (Area.point_at st.sizes st.phase) (numbers_in st).standing) []) ≤ 24
    by true e true =
        let h = (bounds st e).sizes.n in
        let l = take_most (2 * st.sizes.n) (drop (Area.point_at st.sizes st.phase) a) in
        omega (arith, h, l)
    by true e false = omega arith
    by false e w = omega arith

-- ---- the loop

module _ (s : Sheet) (aims : List Float) where
  pub answers_more : (k : ℕ) (b : AfterCall) → is_question b.event ≡ true
      → answers_to (suc k) s aims b ≡ answers_to k s aims (answer_of s aims b)
  unfolding answers_to
  answers_more k b h = rw h

  pub answers_over : (k : ℕ) (b : AfterCall) → is_question b.event ≡ false → answers_to k s aims b ≡ b
  unfolding answers_to
  answers_over zero b h = refl
  answers_over (suc k) b h = rw h

  pub answers_none : (b : AfterCall) → answers_to 0 s aims b ≡ b
  unfolding answers_to
  answers_none b = refl

  -- one turn of the loop: the reply is to the state and the area
  pub answers_turn : (n i : ℕ) (b : AfterCall) {c x : AfterCall} → i < n → is_question b.event ≡ true
      → c ≡ reply_to s aims b.state b.area → x ≡ answers_to (n - i) s aims b → x ≡ answers_to (n - (i + 1)) s aims c
  unfolding answer_of
  answers_turn n i b h q e f =
      let m : n - i ≡ suc (n - (i + 1)) = omega arith in
      f ∙ ap (λ (k : ℕ). answers_to k s aims b) m ∙ answers_more (n - (i + 1)) b q
      ∙ ap (answers_to (n - (i + 1)) s aims) (sym e)

  pub answers_ended : (n i : ℕ) (b : AfterCall) {x : AfterCall} → n - i ≡ 0 → x ≡ answers_to (n - i) s aims b → b ≡ x
  answers_ended n i b h f = sym (f ∙ ap (λ (k : ℕ). answers_to k s aims b) h ∙ answers_none b)

-- ---- the area that is lent has no part in what is printed

module _ (z : Sizes) (start : List Float) (max : Scalar) where
  -- a begin over another area of the same length
  begin_any : (a a' : List Float) → length a ≡ length a'
      → (begin_of z start max a ≡ begin_of z start max a')
      ⊎ ((k : Refusal) × (begin_of z start max a ≡ unchanged no_run a k) × (begin_of z start max a' ≡ unchanged no_run a' k))
  unfolding begin_of
  begin_any a a' l =
      rw l (by (sizes_fit z)
      (eqb (length start) (2 * z.n) && eqb (length a') (area_length z))
      (all_in_domain start z.n && step_fits max))
    where
      of : Bool → Bool → Bool → List Float → AfterCall
      of p q r x =
          let back = unchanged no_run x in
          checks p TooMany back (checks q WrongLength back (checks r OutsideDomain back (begun_of z start max)))

      by : (p q r : Bool)
          → (of p q r a ≡ of p q r a')
          ⊎ ((k : Refusal) × (of p q r a ≡ unchanged no_run a k) × (of p q r a' ≡ unchanged no_run a' k))
      by true true true = inl refl
      by true true false = inr (OutsideDomain, refl, refl)
      by true false r = inr (WrongLength, refl, refl)
      by false q r = inr (TooMany, refl, refl)

  pub printed_any : (n : ℕ) (s : Sheet) (aims a a' : List Float) → length a ≡ length a'
      → printed_of (answers_to n s aims (begin_of z start max a)) ≡ printed_of (answers_to n s aims (begin_of z start max a'))
  printed_any n s aims a a' l =
      ⊎_elim (λ e. ap (λ (b : AfterCall). printed_of (answers_to n s aims b)) e)
      (λ w.
      ap (λ (b : AfterCall). printed_of (answers_to n s aims b)) w.1
      ∙ ap printed_of (answers_over s aims n (unchanged no_run a w.0) refl)
      ∙ sym (ap (λ (b : AfterCall). printed_of (answers_to n s aims b)) w.2
      ∙ ap printed_of (answers_over s aims n (unchanged no_run a' w.0) refl)))
      (begin_any a a' l)

-- ---- the start

-- the first i coordinates are stored in a list
pub record Placing (p : Points) (before : List Float) (i : ℕ) (out : List Float) : Type 0 where
  pub few : i ≤ 2 * p.count
  pub long : length out ≡ length before
  pub is : out ≡ list_to (λ k. from_i64 (get_or (coordinates_in p) k (pos 0))) i ++ drop (2 * i) before

pub placing_none : (p : Points) (before : List Float) → Placing p before 0 before
placing_none p before = record { few = omega arith; long = refl; is = sym (list_to-none _ before) }

pub placing_more : {p : Points} {before out out' : List Float} {i : ℕ} {v : Scalar}
    → length before ≡ 2 * (2 * p.count) → Placing p before i out → i < 2 * p.count
    → v ≡ from_i64 (get_or p.coordinates i (pos 0)) → out' ≡ put out i v → Placing p before (i + 1) out'
placing_more {p} {before} {out} {out'} {i} {v} l w h e q =
    let f : ℕ → Scalar = λ k. from_i64 (get_or (coordinates_in p) k (pos 0)) in
    let same : v ≡ f i = e ∙ ap from_i64 (sym (get_or-take (2 * p.count) p.coordinates i (pos 0) h)) in
    record {
      few = omega arith;
      long = ap length q ∙ length_put out i v ∙ w.long;
      is =
          q ∙ ap (λ (x : List Float). put x i v) w.is
          ∙ ap (λ (x : Scalar). put (list_to f i ++ drop (2 * i) before) i x) same
          ∙ list_to-more f i before (omega (arith, l));
    }

pub placing_all : {p : Points} {before out : List Float} {i : ℕ} → length (coordinates_in p) ≡ 2 * p.count
    → length before ≡ 2 * (2 * p.count) → Placing p before i out → 2 * p.count ≤ i → out ≡ point_at (coordinates_in p)
placing_all {p} {before} {out} {i} c l w h =
    let f : ℕ → Scalar = λ k. from_i64 (get_or (coordinates_in p) k (pos 0)) in
    let u = w.few in
    let e : i ≡ 2 * p.count = omega arith in
    w.is ∙ ap (λ (k : ℕ). list_to f k ++ drop (2 * k) before) e ∙ list_to-all f (2 * p.count) before l
    ∙ ap (list_to f) (sym c)

-- ---- what is printed of an event

pub event_printed : (o : Returned) (a : List Float) {e : Event} {slot : List ℕ} → o.event ≡ e
    → slot ≡ padded (printed_event e (point_of o.state a)) → slot ≡ padded (printed_of (after_call o a))
event_printed o a t q = q ∙ ap (λ (x : Event). padded (printed_event x (point_of o.state a))) (sym t)

-- ---- a sheet's sizes

sizes_are : {s : declared.Sheet} {rows : ℕ} → InRange s rows
    → ◌≡◌ {A = Sizes}
    (record { n = 2 * s.points.count; s = 2 * s.points.count; limit = s.limit })
    (sizes_of (sheet_by s))
sizes_are r = rw r.settles.all_coordinates refl

pub begun_as : {s : declared.Sheet} {rows : ℕ} → InRange s rows → (start a : List Float) {x : Scalar} {b : AfterCall}
    → x ≡ from_i64 (pos s.reach)
    → b ≡ begin_of (record { n = 2 * s.points.count; s = 2 * s.points.count; limit = s.limit }) start x a
    → b ≡ begin_of (sizes_of (sheet_by s)) start (from_i64 (pos s.reach)) a
begun_as r start a e f =
    f ∙ ap₂ (λ (z : Sizes) (x : Scalar). begin_of z start x a) (sizes_are r) e

-- all rows of a sheet fit the slice that is lent
pub rows_room : {s : declared.Sheet} → Settles s
    → (s.rules.count + 2 * s.points.count) * (2 * s.points.count + 1) ≤ 312
rows_room {s} h =
    let a = h.few_points in
    let b = h.near.few in
    mul-le-mul {n₁ = s.rules.count + 2 * s.points.count} {m₁ = 2 * s.points.count + 1} {n₂ = 24} {m₂ = 13}
    (omega (arith, a, b)) (omega (arith, a))

-- ---- what is printed of a sheet

pub settled_printed : (s : Sheet) (a start : List Float) {b : AfterCall} → length a ≡ AREA
    → start ≡ point_at s.coordinates
    → b ≡ answers_to most_replies s start (begin_of (sizes_of s) start (from_i64 (pos s.reach)) a)
    → printed_of b ≡ printed_sheet (ok s)
unfolding settled_of
settled_printed s a start l e f =
    ap printed_of f
    ∙ printed_any (sizes_of s) start (from_i64 (pos s.reach)) most_replies s start a (zeros AREA)
    (l ∙ sym (length-replicate AREA zero64))
    ∙ ap (λ (p : List Float). printed_of (settled_of s p p)) e

-- ---- the call

module _ (text : List ℕ) (area : List Float) (slot : List ℕ) where
  pub area_refused : length area ≢ AREA → after_text 2 area slot ≡ settle_text_of text area slot
  unfolding settle_text_of
  area_refused h = rw (ne_eqb (length area) AREA h) refl

  pub slot_refused : length slot ≢ SLOT → after_text 2 area slot ≡ settle_text_of text area slot
  unfolding settle_text_of
  slot_refused h = by (eqb (length area) AREA)
    where
      by : (b : Bool) → after_text 2 area slot
          ≡ pick (b && eqb (length slot) SLOT) (after_text 0 (zeros AREA) (padded (print_of text)))
          (after_text 2 area slot)
      by true = rw (ne_eqb (length slot) SLOT h) refl
      by false = refl

  pub text_settled : (found : Result declared.Sheet Fault) (area₁ : List Float) {area₂ : List Float} {slot₁ : List ℕ}
      → length area ≡ AREA → length slot ≡ SLOT → whole_sheet_in found ≡ read_of text → slot₁ ≡ padded (printed_sheet (whole_sheet_in found))
      → area₂ ≡ zeros (length area₁) → length area₁ ≡ length area
      → after_text 0 area₂ slot₁ ≡ settle_text_of text area slot
  unfolding settle_text_of
  text_settled found area₁ la ls r p c k =
      rw (eq-eqb (length area) AREA la, eq-eqb (length slot) SLOT ls)
      (ap₂ (after_text 0) (c ∙ ap zeros (k ∙ la)) (p ∙ ap (λ x. padded (printed_sheet x)) r))
