-- After a call the area is +0 wherever no number is in use, whatever the contents of the run: the lists of the memory
-- that the call leaves have just the numbers in use, and the area has +0 behind each of them. A refusal by 1 to 4
-- leaves state and area as they were.
use Rattle.run.specs.Refusal.{number_of}
use Rattle.run.specs.declared.refusal.Refusal.{Refusal}
use Rattle.run.specs.declared.refusal.Refusal.TheVariants.{Altered, OutsideDomain, TooMany, WrongLength}
use Rattle.std.specs.Prelude.{None, Option, Some}
use Prim.Native.Nat.{ℕ, zero, suc, ◌+◌, ◌-◌, ◌*◌, ◌<◌, ◌≤◌}
use mathlib.Core.Bool.{true, true≢false, ◌&&◌}
use mathlib.Core.Path.{◌≡◌, refl, sym, ap, ◌∙◌}
use mathlib.Core.List.{List, [], ◌∷◌}
use native.Mathlib.Nat.{not-suc-le-zero, le_of_suc-le-suc}
use native.Mathlib.Omega.{arith}
use borrow.Author.Tests.{le-leb, leb-true, eqb-true}
use lib.Dec.{eqb}
use lib.Ieee.{Float, nan}
use lib.ListN.{length, drop, get_or, get_or-replicate, get_or-map}
use lib.Seq.{get_or-drop, get_or-take, get_or-append-add}
use Rattle.interval.specs.declared.Scalar.{Scalar}
use Rattle.interval.specs.Scalar.{zero64}
use Rattle.linear.specs.Flat.{zeros}
use Rattle.run.specs.Answered.{answered, answered_none}
use Rattle.run.specs.Area.{Slots, in_order, slot_sizes, start_in, area_length, spare_at, HasRoom}
use Rattle.run.specs.Area.{used_in, Memory, memory_of, padded, padded_slots, area_of, begun_memory}
use Rattle.run.specs.Calls.{AfterCall, unchanged, in_area, refused_by_check, begun_of, begin_of, Accepted, reply_open}
use Rattle.run.specs.Calls.{reply_of, none_open, reply_none_of}
use Rattle.run.specs.Checks.{sizes_fit, constraints_fit, all_in_domain, step_fits, valid}
use Rattle.run.specs.Cleared.{Cleared, Replied, Demand1}
use Rattle.run.specs.Endings.{AfterSlots}
use Rattle.run.specs.Limits.{CONSTRAINTS}
use Rattle.run.specs.Rows.{row_numbers, row_counts}
use Rattle.run.specs.State.{no_run}
use Rattle.run.specs.declared.state.Kind.{Kind}
use Rattle.run.specs.declared.state.Kind.TheVariants as kind
use Rattle.run.specs.declared.state.Sizes.{Sizes}
use Rattle.run.specs.declared.state.State.{State}
use Rattle.run.specs.program.Area.{Limits, lengths_of}
use Rattle.run.proofs.AreaLaws.{Laid, laid_of, slot_read, spare_drop}
use Rattle.run.proofs.AreaRead.{limits_from, area_holds, area_long}
use Rattle.run.proofs.Booleans.{and_left, and_right}
use Rattle.run.proofs.CheckLaws.{SizeBounds, size_bounds, bounds, trial_below, correction_below, checked}
use Rattle.run.proofs.LengthsKept.{Kept, Room, Few, none_held, answered_kept, answered_none_kept}
use Rattle.run.proofs.MemoryLaws.{read_lengths}
use Rattle.run.proofs.PlaceLaws.{all_same}
use Rattle.run.proofs.PhaseLengths.{whole_read}

-- ---- the area of a memory whose lists have the numbers in use

-- behind the numbers of a list
behind : (size : ℕ) (xs : List Float) (j : ℕ) → length xs ≤ j → j < size → get_or (padded size xs) j nan ≡ zero64
behind size xs j h l =
    let i = j - length xs in
    let e : j ≡ length xs + i = omega arith in
    ap (λ (p : ℕ). get_or (padded size xs) p nan) e ∙ get_or-append-add xs (zeros (size - length xs)) i nan
    ∙ get_or-replicate (size - length xs) i zero64 nan (omega arith)

-- each list with +0 behind it, up to its size
abbrev padded_each : List ℕ → List (List Float) → List (List Float)
padded_each [] xs = []
padded_each (n ∷ ns) [] = []
padded_each (n ∷ ns) (x ∷ xs) = padded n x ∷ padded_each ns xs

padded_at : (ns : List ℕ) (xs : List (List Float)) (k : ℕ) → k < length ns → length ns ≤ length xs
    → get_or (padded_each ns xs) k [] ≡ padded (get_or ns k 0) (get_or xs k [])
padded_at [] xs k h l = absurd (not-suc-le-zero h)
padded_at (n ∷ ns) [] k h l = absurd (not-suc-le-zero l)
padded_at (n ∷ ns) (x ∷ xs) zero h l = refl
padded_at (n ∷ ns) (x ∷ xs) (suc k) h l = padded_at ns xs k (le_of_suc-le-suc h) (le_of_suc-le-suc l)

module _ (st : State) (w : Memory) (l : Limits st) (e : lengths_of w ≡ used_in st) where
  laid : Laid st.sizes (in_order (padded_slots st.sizes w)) (area_of st.sizes w)
  laid = laid_of st.sizes w (area_holds st w l e)

  slot_cleared :
      let sizes = in_order (slot_sizes st.sizes) in
      (k j : ℕ) → k < length sizes → get_or (in_order (used_in st)) k 0 ≤ j → j < get_or sizes k 0 →
      get_or (area_of st.sizes w) (start_in st.sizes k + j) nan ≡ zero64
  slot_cleared k j h u b =
      let z = st.sizes in
      let a = area_of z w in
      let sizes : List ℕ = in_order (slot_sizes z) in
      let xs : List Float = get_or (in_order w) k [] in
      let long : length xs ≡ get_or (in_order (used_in st)) k 0 =
      sym (get_or-map (length {A = Float}) (in_order w) k [])
      ∙ ap (λ (x : Slots ℕ). get_or (in_order x) k 0) e in
      sym (get_or-drop (start_in z k) a j nan) ∙ sym (get_or-take (get_or sizes k 0) (drop (start_in z k) a) j nan b)
      ∙ ap (λ (r : List Float). get_or r j nan) (slot_read laid k h ∙ padded_at sizes (in_order w) k h (omega arith))
      ∙ behind (get_or sizes k 0) xs j (omega (arith, long, u)) b

  spare_cleared : (i : ℕ) → spare_at st.sizes ≤ i → i < area_length st.sizes
      → get_or (area_of st.sizes w) i nan ≡ zero64
  spare_cleared i h b =
      let z = st.sizes in
      let a = area_of z w in
      let j = i - spare_at z in
      let p : i ≡ spare_at z + j = omega arith in
      ap (λ (q : ℕ). get_or a q nan) p ∙ sym (get_or-drop (spare_at z) a j nan)
      ∙ ap (λ (r : List Float). get_or r j nan) (spare_drop laid)
      ∙ get_or-replicate (area_length z - spare_at z) j zero64 nan (omega arith)

  area_cleared : Cleared st (area_of st.sizes w)
  area_cleared =
      record { whole = area_long st w l e; remainders = slot_cleared; spare = spare_cleared }

-- ---- what a call leaves the memory with

module _ (st : State) (a : List Float) (v : valid st ≡ true) (long : HasRoom st.sizes a) where
  own_limits : Limits st
  own_limits = let b = bounds st v in limits_from st b.sizes b.contents b.iterations

  own_few : Few st
  own_few = let b = bounds st v in (b.sizes.n, b.contents)

  has_room : (k : Kind) → st.phase ≡ Some k → Room k st
  has_room kind.Start o = (bounds st v).iterations
  has_room kind.Trial o = trial_below st v o
  has_room kind.Correction o = correction_below st v o

  pub reply_kept : (m : ℕ) → m ≤ CONSTRAINTS → (rows : List Float)
      → length rows ≡ row_numbers (row_counts st.sizes m) → (k : Kind) → st.phase ≡ Some k
      → Kept st.sizes st.counts.question (answered k st (memory_of st a) m rows)
  reply_kept m fits rows many k o =
      let w = memory_of st a in
      answered_kept st w own_few m fits rows many k (has_room k o)
      (whole_read st w (read_lengths st own_limits a long) k o)

  pub reply_none_kept : (k : Kind) → st.phase ≡ Some k
      → Kept st.sizes st.counts.question (answered_none k st (memory_of st a))
  reply_none_kept k o =
      let w = memory_of st a in
      answered_none_kept st w own_few k (has_room k o)
      (whole_read st w (read_lengths st own_limits a long) k o)

-- ---- the replies

module _ (st : State) (a : List Float) where
  refused_replied : (k : Refusal) → number_of k ≤ 4 → Replied st a (unchanged st a k)
  refused_replied k h =
      record {
        sizes_kept = refl;
        cleared = λ e. absurd (true≢false (sym (le-leb (number_of k) 4 h) ∙ e));
        unchanged = λ e. (refl, refl);
        follows = λ e. absurd (true≢false (sym (le-leb (number_of k) 4 h) ∙ e));
      }

  kept_replied : SizeBounds st.sizes → (o : AfterSlots) → Kept st.sizes st.counts.question o
      → Replied st a (in_area o)
  kept_replied b o k =
      let own : SizeBounds o.state.sizes = rw k.sizes_kept b in
      let within : o.state.counts.iterations ≤ o.state.sizes.limit = rw k.sizes_kept k.within in
      record {
        sizes_kept = k.sizes_kept;
        cleared = λ e. area_cleared o.state o.memory (limits_from o.state own k.few_held within)
            k.lengths;
        unchanged = λ e. absurd (true≢false (sym e ∙ k.past_checks));
        follows = λ e. k.follows;
      }

pub reply_leaves : (st : State) (a : List Float) (m : ℕ) (rows : List Float) → Replied st a (reply_of st a m rows)
unfolding reply_of
reply_leaves st a m rows =
    checked (Replied st a) (valid st) Altered (unchanged st a) _ (refused_replied st a Altered (omega arith))
    (λ v. opened v st.phase refl)
  where
    opened : valid st ≡ true → (p : Option Kind) → st.phase ≡ p → Replied st a (reply_open st a m rows p)
    opened v None o = refused_replied st a Altered (omega arith)
    opened v (Some k) o =
        let z = st.sizes in
        let fits = eqb (length a) (area_length z) in
        let many = eqb (length rows) (row_numbers (row_counts z m)) in
        checked (Replied st a) (constraints_fit m) TooMany (unchanged st a) _ (refused_replied st a TooMany (omega arith))
        (λ f.
        checked (Replied st a) (fits && many) WrongLength (unchanged st a) _ (refused_replied st a WrongLength (omega arith))
        (λ e.
        checked (Replied st a) (all_in_domain rows ((m + z.s) * (z.n + 1))) OutsideDomain (unchanged st a) _
        (refused_replied st a OutsideDomain (omega arith))
        (λ d.
        kept_replied st a (bounds st v).sizes (answered k st (memory_of st a) m rows)
        (reply_kept st a v (eqb-true _ _ (and_left fits many e)) m (leb-true _ _ f) rows
        (eqb-true _ _ (and_right fits many e)) k o))))

pub reply_none_leaves : (st : State) (a : List Float) → Replied st a (reply_none_of st a)
unfolding reply_none_of
reply_none_leaves st a =
    checked (Replied st a) (valid st) Altered (unchanged st a) _ (refused_replied st a Altered (omega arith))
    (λ v. opened v st.phase refl)
  where
    opened : valid st ≡ true → (p : Option Kind) → st.phase ≡ p → Replied st a (none_open st a p)
    opened v None o = refused_replied st a Altered (omega arith)
    opened v (Some k) o =
        checked (Replied st a) (eqb (length a) (area_length st.sizes)) WrongLength (unchanged st a) _
        (refused_replied st a WrongLength (omega arith))
        (λ e.
        kept_replied st a (bounds st v).sizes (answered_none k st (memory_of st a))
        (reply_none_kept st a v (eqb-true _ _ e) k o))

-- ---- begin

pub begun_lengths : (z : Sizes) (start : List Float) (max : Scalar) → length start ≡ 2 * z.n
    → lengths_of (begun_memory start) ≡ used_in (begun_of z start max).state
begun_lengths z start max e =
    all_same {x = lengths_of (begun_memory start)} {y = used_in (begun_of z start max).state}
    (record {
      standing = e;
      landed = refl;
      asked = e;
      standing-rows = refl;
      landed-rows = refl;
      step = refl;
      multipliers = refl;
      curvature = refl;
      filter = refl;
    })

pub begun_limits : (z : Sizes) (start : List Float) (max : Scalar) → SizeBounds z
    → Limits (begun_of z start max).state
begun_limits z start max b = limits_from (begun_of z start max).state b none_held (omega arith)

abbrev Begun : AfterCall → Type 0
Begun l = Accepted l → Cleared l.state l.area

not_accepted : (a : List Float) (k : Refusal) → Begun (unchanged no_run a k)
not_accepted a k = λ e. absurd (let z : ◌≡◌ {A = ℕ} 0 1 = cc in omega arith)

pub begin_cleared : (z : Sizes) (start : List Float) (max : Scalar) (a : List Float) → Accepted (begin_of z start max a)
    → Cleared (begin_of z start max a).state (begin_of z start max a).area
unfolding begin_of
begin_cleared z start max a =
    let full = eqb (length start) (2 * z.n) in
    checked Begun (sizes_fit z) TooMany (unchanged no_run a) _ (not_accepted a TooMany)
    (λ p.
    checked Begun (full && eqb (length a) (area_length z)) WrongLength (unchanged no_run a) _ (not_accepted a WrongLength)
    (λ q.
    checked Begun (all_in_domain start z.n && step_fits max) OutsideDomain (unchanged no_run a) _ (not_accepted a OutsideDomain)
    (λ r e.
    area_cleared (begun_of z start max).state (begun_memory start) (begun_limits z start max (size_bounds z p))
    (begun_lengths z start max (eqb-true _ _ (and_left full (eqb (length a) (area_length z)) q))))))

-- a refused begin leaves the area; an accepted one is no refusal
begin_unchanged :
    (z : Sizes) (start : List Float) (max : Scalar) (a : List Float) →
    let b = begin_of z start max a in
    refused_by_check b.event ≡ true → b.area ≡ a
unfolding begin_of
begin_unchanged z start max a =
    checked Same (sizes_fit z) TooMany (unchanged no_run a) _ (λ e. refl)
    (λ p.
    checked Same (eqb (length start) (2 * z.n) && eqb (length a) (area_length z)) WrongLength (unchanged no_run a) _ (λ e. refl)
    (λ q.
    checked Same (all_in_domain start z.n && step_fits max) OutsideDomain (unchanged no_run a) _ (λ e. refl)
    (λ r e. absurd (true≢false (sym e)))))
  where
    Same : AfterCall → Type 0
    Same l = refused_by_check l.event ≡ true → l.area ≡ a

pub demand1 : Demand1
demand1 = record {
  begun = begin_cleared;
  not-begun = begin_unchanged;
  replied = reply_leaves;
  replied_none = reply_none_leaves;
}
