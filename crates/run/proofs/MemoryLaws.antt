-- An area that holds a memory: reading a slot gives its list, clearing what is not in use leaves what the definitions
-- read, and clearing all but the standing point leaves that point. And what a call hands on while it works: the lengths
-- of the memory and the violations that are known depend on the sizes, contents and iterations of the run alone.
use Prim.Native.Nat.{ℕ, zero, suc, ◌+◌, ◌-◌, ◌<◌, ◌≤◌}
use mathlib.Core.Bool.{Bool, true, false}
use mathlib.Core.Path.{◌≡◌, refl, sym, ap, subst, ◌∙◌}
use mathlib.Core.List.{List, [], ◌∷◌, ◌++◌, map}
use native.Mathlib.Omega.{arith}
use lib.Ieee.{Float}
use lib.ListN.{length, take, drop, get_or, length-drop, replicate-append-replicate, length-replicate}
use lib.Seq.{length-take-le, take_at}
use Rattle.interval.specs.Result.{Res, ok}
use Rattle.interval.specs.Scalar.{pick, zero64}
use Rattle.interval.specs.declared.Scalar.{Scalar}
use Rattle.linear.specs.Flat.{zeros}
use Rattle.run.specs.Area.{point_len, rows_len, curvature_len, filter_len, Slots, in_order, indices, slot_sizes}
use Rattle.run.specs.Area.{start_of}
use Rattle.run.specs.Area.{start_in, places_of, area_length, spare_at, HasRoom, standing_counts, landed_counts}
use Rattle.run.specs.Area.{numbers_in, used_in, Memory, part_of, memory_of, padded, padded_slots, area_of, joined}
use Rattle.run.specs.Area.{only_standing, is_open, is_tried, is_corrected}
use Rattle.run.specs.Limits.{CONSTRAINTS}
use Rattle.run.specs.Residuals.{violation_of}
use Rattle.run.specs.Rows.{row_numbers, constraints_of, row_counts}
use Rattle.run.specs.declared.state.Sizes.{Sizes}
use Rattle.run.specs.declared.state.State.{State}
use Rattle.run.specs.program.Area.{AtMost, lengths_of, StandingWhole, TrialWhole, LandedWhole, Holds, Uses}
use Rattle.run.specs.program.Area.{Working, StandingKnown, ViolationsKnown, Limits}
use Rattle.run.specs.program.Area.{cleared_between, cleared_to, standing_alone}
use Rattle.run.specs.program.Endings.{Bounded}
use Rattle.run.specs.program.Rows.{FewRows}
use Rattle.run.proofs.AreaLaws.{Laid, laid_of, numbers_read, slot_read, spare_drop}
use Rattle.run.proofs.AreaLaws.{cleared_padded, cleared_none, cleared_part_of, cleared_at, cleared_slots}
use Rattle.run.proofs.PhaseLengths.{lengths_at_most}
use Rattle.run.proofs.PlaceLaws.{spare_room, slot_room}
use Rattle.run.proofs.PlaceLaws as places

-- ---- what is read of a slot

module _ {z : Sizes} {w : Memory} {a : List Float} (h : Holds z w a) where
  read_at :
      (k : ℕ) → k < 9 → (xs : List Float) →
      get_or (in_order (padded_slots z w)) k [] ≡ padded (get_or (in_order (slot_sizes z)) k 0) xs →
      length xs ≤ get_or (in_order (slot_sizes z)) k 0 → {n : ℕ} → length xs ≡ n → part_of a (start_in z k) n ≡ xs
  read_at k l xs is f e = ap (part_of a (start_in z k)) (sym e) ∙ numbers_read (laid_of z w h) k l xs is f

  pub read_standing : {n : ℕ} → length w.standing ≡ n → part_of a (places_of z).standing n ≡ w.standing
  read_standing e = read_at indices.standing (omega arith) w.standing refl h.fits.standing e

  pub read_landed : {n : ℕ} → length w.landed ≡ n → part_of a (places_of z).landed n ≡ w.landed
  read_landed e = read_at indices.landed (omega arith) w.landed refl h.fits.landed e

  pub read_asked : {n : ℕ} → length w.asked ≡ n → part_of a (places_of z).asked n ≡ w.asked
  read_asked e = read_at indices.asked (omega arith) w.asked refl h.fits.asked e

  pub read_standing_rows : {n : ℕ} → length w.standing_rows ≡ n
      → part_of a (places_of z).standing_rows n ≡ w.standing_rows
  read_standing_rows e =
      read_at indices.standing_rows (omega arith) w.standing_rows refl h.fits.standing-rows e

  pub read_landed_rows : {n : ℕ} → length w.landed_rows ≡ n → part_of a (places_of z).landed_rows n ≡ w.landed_rows
  read_landed_rows e = read_at indices.landed_rows (omega arith) w.landed_rows refl h.fits.landed-rows e

  pub read_step : {n : ℕ} → length w.step ≡ n → part_of a (places_of z).step n ≡ w.step
  read_step e = read_at indices.step (omega arith) w.step refl h.fits.step e

  pub read_multipliers : {n : ℕ} → length w.multipliers ≡ n
      → part_of a (places_of z).multipliers n ≡ w.multipliers
  read_multipliers e = read_at indices.multipliers (omega arith) w.multipliers refl h.fits.multipliers e

  pub read_curvature : {n : ℕ} → length w.curvature ≡ n → part_of a (places_of z).curvature n ≡ w.curvature
  read_curvature e = read_at indices.curvature (omega arith) w.curvature refl h.fits.curvature e

  pub read_filter : {n : ℕ} → length w.filter ≡ n → part_of a (places_of z).filter n ≡ w.filter
  read_filter e = read_at indices.filter (omega arith) w.filter refl h.fits.filter e

  -- the last numbers
  pub read_spare : (n : ℕ) → n ≤ area_length z - spare_at z → part_of a (spare_at z) n ≡ zeros n
  read_spare n f =
      let m = area_length z - spare_at z in
      let e : n + (m - n) ≡ m = omega arith in
      ap (take n) (spare_drop (laid_of z w h) ∙ ap zeros (sym e) ∙ sym (replicate-append-replicate n (m - n) zero64))
      ∙ take_at (zeros n) (zeros (m - n)) n (length-replicate n zero64)

-- ---- numbers in use fit their slots

module _ (st : State) (l : Limits st) where
  pub point_fits : (numbers_in st).standing ≤ point_len
  point_fits = omega (arith, l.standing_few.few_variables)

  pub standing_rows_fit : (numbers_in st).standing_rows ≤ rows_len
  standing_rows_fit = places.rows_fit st.sizes (standing_counts st) l.standing_few

  pub landed_rows_fit : (numbers_in st).landed_rows ≤ rows_len
  landed_rows_fit = places.rows_fit st.sizes (landed_counts st) l.landed_few

  pub multipliers_fit : (numbers_in st).multipliers ≤ point_len
  multipliers_fit = omega (arith, l.standing_few.few_constraints)

  pub curvature_fits : (numbers_in st).curvature ≤ curvature_len
  curvature_fits = places.curvature_fits st.sizes st.sizes.n l.standing_few.few_variables

  pub filter_fits : (numbers_in st).filter ≤ filter_len
  filter_fits = omega (arith, l.iterations_fit)

  pub within_fits : {w : Memory} → AtMost (numbers_in st) w → AtMost (slot_sizes st.sizes) w
  within_fits t =
      record {
        standing = omega (arith, t.standing, point_fits);
        landed = omega (arith, t.landed, point_fits);
        asked = omega (arith, t.asked, point_fits);
        standing-rows = omega (arith, t.standing-rows, standing_rows_fit);
        landed-rows = omega (arith, t.landed-rows, landed_rows_fit);
        step = omega (arith, t.step, point_fits);
        multipliers = omega (arith, t.multipliers, multipliers_fit);
        curvature = omega (arith, t.curvature, curvature_fits);
        filter = omega (arith, t.filter, filter_fits);
      }

-- ---- two numbers for each slot, the first at most the second

record Ordered : Type 0 where
  low : ℕ
  high : ℕ
  ordered : low ≤ high

ordered_at : (xs : List Ordered) (k : ℕ) → get_or (map (λ (x : Ordered). x.low) xs) k 0
    ≤ get_or (map (λ (x : Ordered). x.high) xs) k 0
ordered_at [] k = omega arith
ordered_at (x ∷ xs) zero = x.ordered
ordered_at (x ∷ xs) (suc k) = ordered_at xs k

-- ---- an area with its unused numbers cleared

pick_below : (b : Bool) {count size : ℕ} → count ≤ size → pick b count 0 ≤ size
pick_below true h = h
pick_below false h = omega arith

module _ (st : State) (l : Limits st) (a : List Float) (long : HasRoom st.sizes a) where
  -- where slot k has so many numbers in use
  module _ (k : ℕ) (b : k < 9) (used : ℕ) (f : used ≤ get_or (in_order (slot_sizes st.sizes)) k 0) where
    part_cleared :
        let size = get_or (in_order (slot_sizes st.sizes)) k 0 in
        cleared_between used size (part_of a (start_in st.sizes k) size)
        ≡ padded size (part_of a (start_in st.sizes k) used)
    part_cleared =
        cleared_part_of a (start_in st.sizes k) (get_or (in_order (slot_sizes st.sizes)) k 0) used f
        (omega (arith, slot_room st.sizes k b, long))

    part_length : length (part_of a (start_in st.sizes k) used) ≡ used
    part_length =
        length-take-le used (drop (start_in st.sizes k) a)
        (simp length-drop (omega (arith, slot_room st.sizes k b, long)))

  -- how much of each slot is in use, by the phase
  standing_used : (used_in st).standing ≤ point_len
  standing_used = point_fits st l

  landed_used : (used_in st).landed ≤ point_len
  landed_used = pick_below (is_corrected st.phase) (point_fits st l)

  asked_used : (used_in st).asked ≤ point_len
  asked_used = pick_below (is_open st.phase) (point_fits st l)

  standing_rows_used : (used_in st).standing_rows ≤ rows_len
  standing_rows_used = pick_below (is_tried st.phase) (standing_rows_fit st l)

  landed_rows_used : (used_in st).landed_rows ≤ rows_len
  landed_rows_used = pick_below (is_corrected st.phase) (landed_rows_fit st l)

  step_used : (used_in st).step ≤ point_len
  step_used = pick_below (is_tried st.phase) (point_fits st l)

  multipliers_used : (used_in st).multipliers ≤ point_len
  multipliers_used = pick_below (is_tried st.phase) (multipliers_fit st l)

  curvature_used : (used_in st).curvature ≤ curvature_len
  curvature_used = pick_below (is_tried st.phase) (curvature_fits st l)

  filter_used : (used_in st).filter ≤ filter_len
  filter_used = pick_below (is_tried st.phase) (filter_fits st l)

  pub read_lengths : lengths_of (memory_of st a) ≡ used_in st
  unfolding memory_of
  read_lengths =
      rw (
        part_length indices.standing (omega arith) (used_in st).standing standing_used,
        part_length indices.landed (omega arith) (used_in st).landed landed_used,
        part_length indices.asked (omega arith) (used_in st).asked asked_used,
        part_length indices.standing_rows (omega arith) (used_in st).standing_rows standing_rows_used,
        part_length indices.landed_rows (omega arith) (used_in st).landed_rows landed_rows_used,
        part_length indices.step (omega arith) (used_in st).step step_used,
        part_length indices.multipliers (omega arith) (used_in st).multipliers multipliers_used,
        part_length indices.curvature (omega arith) (used_in st).curvature curvature_used,
        part_length indices.filter (omega arith) (used_in st).filter filter_used,
      )
      refl

  cleared_is :
      let z = st.sizes in
      let c = cleared_at z (in_order (used_in st)) (in_order (slot_sizes z)) a in
      c 0 ∷ c 1 ∷ c 2 ∷ c 3 ∷ c 4 ∷ c 5 ∷ c 6 ∷ c 7 ∷ c 8 ∷ [] ≡ in_order (padded_slots z (memory_of st a))
  unfolding memory_of
  cleared_is =
      rw (
        part_cleared indices.standing (omega arith) (used_in st).standing standing_used,
        part_cleared indices.landed (omega arith) (used_in st).landed landed_used,
        part_cleared indices.asked (omega arith) (used_in st).asked asked_used,
        part_cleared indices.standing_rows (omega arith) (used_in st).standing_rows standing_rows_used,
        part_cleared indices.landed_rows (omega arith) (used_in st).landed_rows landed_rows_used,
        part_cleared indices.step (omega arith) (used_in st).step step_used,
        part_cleared indices.multipliers (omega arith) (used_in st).multipliers multipliers_used,
        part_cleared indices.curvature (omega arith) (used_in st).curvature curvature_used,
        part_cleared indices.filter (omega arith) (used_in st).filter filter_used,
      )
      refl

  -- what is left is what the definitions read
  pub cleared_uses : {b : List Float} →
      b ≡ cleared_to (in_order (slot_sizes st.sizes)) (in_order (used_in st)) (in_order (slot_sizes st.sizes)) a 9
      ++ zeros (area_length st.sizes - spare_at st.sizes) →
      Uses st.sizes (used_in st) (memory_of st a) b
  unfolding area_of
  cleared_uses e =
      let z = st.sizes in
      let end : List Float = zeros (area_length z - spare_at z) in
      record {
        holds = record {
          fits = within_fits st l (lengths_at_most st (memory_of st a) read_lengths);
          is = e ∙ cleared_slots z (in_order (used_in st)) (in_order (slot_sizes z)) a end
              ∙ ap (λ (ls : List (List Float)). joined ls end) cleared_is;
        };
        lengths = read_lengths;
      }

-- ---- an area with all but the standing point cleared

module _ (st : State) (l : Limits st) (w : Memory) (a : List Float) (u : Working st w a) where
  laid : Laid st.sizes (in_order (padded_slots st.sizes w)) a
  laid = laid_of st.sizes w u.holds

  -- a slot of which all numbers in use are cleared
  slot_cleared :
      (k : ℕ) → k < 9 → (xs : List Float) (to : ℕ) →
      let size = get_or (in_order (slot_sizes st.sizes)) k 0 in
      get_or (in_order (padded_slots st.sizes w)) k [] ≡ padded size xs → to ≤ size → length xs ≤ to →
      cleared_between 0 to (part_of a (start_in st.sizes k) size) ≡ padded size []
  slot_cleared k b xs to is f g =
      let size = get_or (in_order (slot_sizes st.sizes)) k 0 in
      ap (cleared_between 0 to) (slot_read laid k b ∙ is)
      ∙ cleared_padded size 0 to xs (omega arith) f (omega arith) g

  alone_is :
      let z = st.sizes in
      let c = cleared_at z (in_order (standing_alone (numbers_in st))) (in_order (numbers_in st)) a in
      c 0 ∷ c 1 ∷ c 2 ∷ c 3 ∷ c 4 ∷ c 5 ∷ c 6 ∷ c 7 ∷ c 8 ∷ [] ≡ in_order (padded_slots z (only_standing w))
  alone_is =
      let t = u.at_most in
      rw (
        cleared_none (numbers_in st).standing
            (part_of a (places_of st.sizes).standing (slot_sizes st.sizes).standing),
        slot_read laid indices.standing (omega arith),
        slot_cleared indices.landed (omega arith) w.landed (numbers_in st).landed refl (point_fits st l)
            t.landed,
        slot_cleared indices.asked (omega arith) w.asked (numbers_in st).asked refl (point_fits st l) t.asked,
        slot_cleared indices.standing_rows (omega arith) w.standing_rows (numbers_in st).standing_rows refl
            (standing_rows_fit st l) t.standing-rows,
        slot_cleared indices.landed_rows (omega arith) w.landed_rows (numbers_in st).landed_rows refl
            (landed_rows_fit st l) t.landed-rows,
        slot_cleared indices.step (omega arith) w.step (numbers_in st).step refl (point_fits st l) t.step,
        slot_cleared indices.multipliers (omega arith) w.multipliers (numbers_in st).multipliers refl
            (multipliers_fit st l) t.multipliers,
        slot_cleared indices.curvature (omega arith) w.curvature (numbers_in st).curvature refl
            (curvature_fits st l) t.curvature,
        slot_cleared indices.filter (omega arith) w.filter (numbers_in st).filter refl (filter_fits st l)
            t.filter,
      )
      refl

  pub keeps_standing : {b : List Float} →
      b ≡ cleared_to (in_order (slot_sizes st.sizes)) (in_order (standing_alone (numbers_in st))) (in_order (numbers_in st))
      a 9 ++ drop (spare_at st.sizes) a →
      Holds st.sizes (only_standing w) b
  unfolding area_of
  keeps_standing e =
      let z = st.sizes in
      let end : List Float = zeros (area_length z - spare_at z) in
      let from : List ℕ = in_order (standing_alone (numbers_in st)) in
      let to : List ℕ = in_order (numbers_in st) in
      let f = u.holds.fits in
      record {
        fits = record {
          standing = f.standing;
          landed = omega arith;
          asked = omega arith;
          standing-rows = omega arith;
          landed-rows = omega arith;
          step = omega arith;
          multipliers = omega arith;
          curvature = omega arith;
          filter = omega arith;
        };
        is = e
            ∙ ap (λ (r : List Float). cleared_to (in_order (slot_sizes z)) from to a 9 ++ r) (spare_drop laid)
            ∙ cleared_slots z from to a end
            ∙ ap (λ (ls : List (List Float)). joined ls end) alone_is;
      }

-- ---- the places between which slots are cleared, slot by slot

module _ (st : State) (l : Limits st) where
  numbers_ordered : Slots Ordered
  numbers_ordered =
      record {
        standing = record { low = (numbers_in st).standing; high = point_len; ordered = point_fits st l };
        landed = record { low = (numbers_in st).landed; high = point_len; ordered = point_fits st l };
        asked = record { low = (numbers_in st).asked; high = point_len; ordered = point_fits st l };
        standing_rows = record { low = (numbers_in st).standing_rows; high = rows_len; ordered = standing_rows_fit st l };
        landed_rows = record { low = (numbers_in st).landed_rows; high = rows_len; ordered = landed_rows_fit st l };
        step = record { low = (numbers_in st).step; high = point_len; ordered = point_fits st l };
        multipliers = record { low = (numbers_in st).multipliers; high = point_len; ordered = multipliers_fit st l };
        curvature = record { low = (numbers_in st).curvature; high = curvature_len; ordered = curvature_fits st l };
        filter = record { low = (numbers_in st).filter; high = filter_len; ordered = filter_fits st l };
      }

  pub numbers_below : (k : ℕ) → get_or (in_order (numbers_in st)) k 0 ≤ get_or (in_order (slot_sizes st.sizes)) k 0
  unfolding numbers_ordered
  numbers_below k = ordered_at (in_order numbers_ordered) k

  none_ordered : ℕ → Ordered
  none_ordered n = record { low = 0; high = n; ordered = omega arith }

  alone_ordered : Slots Ordered
  alone_ordered =
      record {
        standing =
            record { low = (numbers_in st).standing; high = (numbers_in st).standing; ordered = omega arith };
        landed = none_ordered (numbers_in st).landed;
        asked = none_ordered (numbers_in st).asked;
        standing_rows = none_ordered (numbers_in st).standing_rows;
        landed_rows = none_ordered (numbers_in st).landed_rows;
        step = none_ordered (numbers_in st).step;
        multipliers = none_ordered (numbers_in st).multipliers;
        curvature = none_ordered (numbers_in st).curvature;
        filter = none_ordered (numbers_in st).filter;
      }

  pub alone_below : (k : ℕ) → get_or (in_order (standing_alone (numbers_in st))) k 0 ≤ get_or (in_order (numbers_in st)) k 0
  unfolding alone_ordered none_ordered
  alone_below k = ordered_at (in_order alone_ordered) k

  used_ordered : Bool → {n size : ℕ} → n ≤ size → Ordered
  used_ordered b {n} {size} f = record { low = pick b n 0; high = size; ordered = pick_below b f }

  slots_ordered : Slots Ordered
  slots_ordered =
      let p = st.phase in
      record {
        standing = record { low = (numbers_in st).standing; high = point_len; ordered = point_fits st l };
        landed = used_ordered (is_corrected p) (point_fits st l);
        asked = used_ordered (is_open p) (point_fits st l);
        standing_rows = used_ordered (is_tried p) (standing_rows_fit st l);
        landed_rows = used_ordered (is_corrected p) (landed_rows_fit st l);
        step = used_ordered (is_tried p) (point_fits st l);
        multipliers = used_ordered (is_tried p) (multipliers_fit st l);
        curvature = used_ordered (is_tried p) (curvature_fits st l);
        filter = used_ordered (is_tried p) (filter_fits st l);
      }

  pub used_below : (k : ℕ) → get_or (in_order (used_in st)) k 0 ≤ get_or (in_order (slot_sizes st.sizes)) k 0
  unfolding slots_ordered used_ordered
  used_below k = ordered_at (in_order slots_ordered) k

-- what clears the slots is given places that are in order, within the slots, and slots within the area
module _ (st : State) (l : Limits st) (a : List Float) (long : HasRoom st.sizes a) where
  pub unused_fit :
      let sizes = in_order (slot_sizes st.sizes) in
      let used = in_order (used_in st) in
      (length used ≡ length sizes) × (length sizes ≡ length sizes) × (start_of sizes (length sizes) ≤ length a) ×
      ((k : ℕ) → k < length sizes → (get_or used k 0 ≤ get_or sizes k 0) × (get_or sizes k 0 ≤ get_or sizes k 0))
  unused_fit =
      (refl, refl, omega (arith, spare_room st.sizes, long), λ k h. (used_below st l k, omega arith))

  pub alone_fit :
      let sizes = in_order (slot_sizes st.sizes) in
      let from = in_order (standing_alone (numbers_in st)) in
      let to = in_order (numbers_in st) in
      (length from ≡ length sizes) × (length to ≡ length sizes) × (start_of sizes (length sizes) ≤ length a) ×
      ((k : ℕ) → k < length sizes → (get_or from k 0 ≤ get_or to k 0) × (get_or to k 0 ≤ get_or sizes k 0))
  alone_fit =
      (refl, refl, omega (arith, spare_room st.sizes, long), λ k h. (alone_below st l k, numbers_below st l k))

-- ---- what a call hands on

module _ {t : ℕ} {st : State} (b : Bounded t st) where
  -- the counts of an answer with so many constraint rows
  pub rows_of : {m : ℕ} → m ≤ CONSTRAINTS → FewRows (row_counts st.sizes m)
  rows_of h = record { few_variables = b.few_variables; few_constraints = h; few_sums = b.few_sums }

  -- and their numbers
  pub rows_fit : {m k : ℕ} → m ≤ CONSTRAINTS → k ≡ row_numbers (row_counts st.sizes m) → k ≤ rows_len
  rows_fit {m} h e = omega (arith, e, places.rows_fit st.sizes (row_counts st.sizes m) (rows_of h))

  pub standing_rows_of : FewRows (standing_counts st)
  standing_rows_of = rows_of b.few_standing

  pub landed_rows_of : FewRows (landed_counts st)
  landed_rows_of = rows_of b.few_landed

  pub limits_of : Limits st
  limits_of = record {
    standing_few = standing_rows_of;
    landed_few = landed_rows_of;
    iterations_fit = omega (arith, b.within, b.few_iterations);
  }

-- for another state of the run, of the same sizes and iterations
module _ {s t : State} (e : t ≡ s) {w : Memory} {a : List Float} where
  pub works_as : Working s w a → Working t w a
  works_as u = subst (λ (x : State). Working x w a) (sym e) u

  pub seeks_as : {standing : Res Scalar} → StandingKnown s standing w a → StandingKnown t standing w a
  seeks_as {standing} u = subst (λ (x : State). StandingKnown x standing w a) (sym e) u

  pub judges_as : {theta : Scalar} {landed : Res Scalar} → ViolationsKnown s theta landed w a
      → ViolationsKnown t theta landed w a
  judges_as {theta} {landed} u = subst (λ (x : State). ViolationsKnown x theta landed w a) (sym e) u

-- with the violations that were worked out
module _ (st : State) {w : Memory} {a : List Float} (u : Working st w a) (s : StandingWhole (numbers_in st) w) where
  pub measures : {standing : Res Scalar}
      → standing ≡ violation_of (constraints_of (standing_counts st) w.standing_rows)
      → StandingKnown st standing w a
  measures e = record { within = u; standing_whole = s; standing_is = e }

  pub compares : TrialWhole (numbers_in st) w → LandedWhole (numbers_in st) w → {theta : Scalar} {landed : Res Scalar}
      → ok theta ≡ violation_of (constraints_of (standing_counts st) w.standing_rows)
      → landed ≡ violation_of (constraints_of (landed_counts st) w.landed_rows)
      → ViolationsKnown st theta landed w a
  compares t v e f =
      record { from-standing = measures e; trial_whole = t; landed_whole = v; landed_is = f }
