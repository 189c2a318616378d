-- Where the slots stand: one behind the other, so that a slot ends before any later one begins, and all of them within
-- the area, which has behind the last of them as many numbers more as the curvature's slot.
use Prim.Native.Nat.{ℕ, zero, suc, ◌+◌, ◌-◌, ◌*◌, ◌<◌, ◌≤◌}
use mathlib.Core.Bool.{Bool, true, false, ◌||◌}
use mathlib.Core.List.{List}
use mathlib.Core.Logic.{⊎_elim, inl, inr}
use mathlib.Core.Path.{◌≡◌, refl, ap}
use native.Mathlib.Nat.{eq-or-lt_of_le, mul-le-mul}
use native.Mathlib.Omega.{arith}
use borrow.Author.Tests.{ltb-true}
use lib.Dec.{lit<, ltb}
use lib.Ieee.{Float}
use lib.ListN.{length, take, drop, get_or}
use Rattle.interval.specs.Scalar.{pick}
use Rattle.run.specs.Area.{Slots, start_of, start_in, in_order, slot_sizes, spare_at, area_length, HasRoom, part_of}
use Rattle.run.specs.Area.{places_of, indices}
use Rattle.run.specs.Curvature.{curvature_entries}
use Rattle.run.specs.Limits.{VARIABLES}
use Rattle.run.specs.Rows.{row_numbers}
use Rattle.run.specs.declared.rows.RowCounts.{RowCounts}
use Rattle.run.specs.declared.state.Sizes.{Sizes}
use Rattle.run.specs.program.Area.{Apart}
use Rattle.run.specs.program.Rows.{FewRows}
use Rattle.run.proofs.CheckLaws.{few_scalars}

-- ---- what two have for each slot

pub record SameSlots {A : Type 0} (x y : Slots A) : Type 0 where
  pub standing : x.standing ≡ y.standing
  pub landed : x.landed ≡ y.landed
  pub asked : x.asked ≡ y.asked
  pub standing-rows : x.standing_rows ≡ y.standing_rows
  pub landed-rows : x.landed_rows ≡ y.landed_rows
  pub step : x.step ≡ y.step
  pub multipliers : x.multipliers ≡ y.multipliers
  pub curvature : x.curvature ≡ y.curvature
  pub filter : x.filter ≡ y.filter

module _ {A : Type 0} {x y : Slots A} where
  pub each_same : x ≡ y → SameSlots x y
  each_same e = record {
    standing = ap (λ (s : Slots A). s.standing) e;
    landed = ap (λ (s : Slots A). s.landed) e;
    asked = ap (λ (s : Slots A). s.asked) e;
    standing-rows = ap (λ (s : Slots A). s.standing_rows) e;
    landed-rows = ap (λ (s : Slots A). s.landed_rows) e;
    step = ap (λ (s : Slots A). s.step) e;
    multipliers = ap (λ (s : Slots A). s.multipliers) e;
    curvature = ap (λ (s : Slots A). s.curvature) e;
    filter = ap (λ (s : Slots A). s.filter) e;
  }

  pub all_same : SameSlots x y → x ≡ y
  all_same e = λ i. record {
    standing = e.standing i;
    landed = e.landed i;
    asked = e.asked i;
    standing_rows = e.standing-rows i;
    landed_rows = e.landed-rows i;
    step = e.step i;
    multipliers = e.multipliers i;
    curvature = e.curvature i;
    filter = e.filter i;
  }

-- ---- slots of any sizes

module _ (sizes : List ℕ) where
  pub start_next : (k : ℕ) → start_of sizes (suc k) ≡ start_of sizes k + get_or sizes k 0
  unfolding start_of
  start_next k = refl

  -- a later slot begins no earlier
  pub start_later : (j k : ℕ) → j ≤ k → start_of sizes j ≤ start_of sizes k
  start_later j zero h = let e : j ≡ 0 = omega arith in omega (arith, ap (start_of sizes) e)
  start_later j (suc k) h =
      ⊎_elim (λ e. omega (arith, ap (start_of sizes) e))
      (λ l. omega (arith, start_later j k (omega (arith, l)), start_next k)) (eq-or-lt_of_le h)

  -- and a slot ends before it
  pub slot_before : (j k : ℕ) → j < k → start_of sizes j + get_or sizes j 0 ≤ start_of sizes k
  slot_before j k h = omega (arith, start_later (suc j) k h, start_next j)

-- ---- the slots of a run

module _ (z : Sizes) where
  -- the size of slot k
  abbrev pub size_in : ℕ → ℕ
  size_in k = get_or (in_order (slot_sizes z)) k 0

  pub spare_inside : spare_at z + (slot_sizes z).curvature ≤ area_length z
  unfolding start_of
  spare_inside = omega arith

  pub slot_inside : (k : ℕ) → k < length (in_order (slot_sizes z)) → start_in z k + size_in k ≤ spare_at z
  slot_inside k h = slot_before (in_order (slot_sizes z)) k (length (in_order (slot_sizes z))) h

  pub spare_room : spare_at z ≤ area_length z
  spare_room = omega (arith, spare_inside)

  pub slot_room : (k : ℕ) → k < length (in_order (slot_sizes z)) → start_in z k + size_in k ≤ area_length z
  slot_room k h = omega (arith, slot_inside k h, spare_inside)

  -- so many numbers of a slot are in the area, and so are as many of the last ones as the curvature has
  module _ (a : List Float) (room : HasRoom z a) (count : ℕ) where
    pub part_inside : (k : ℕ) → k < length (in_order (slot_sizes z)) → count ≤ size_in k → start_in z k + count ≤ length a
    part_inside k h few = omega (arith, slot_inside k h, spare_inside, room)

    pub spare_part : count ≤ (slot_sizes z).curvature → spare_at z + count ≤ length a
    spare_part few = omega (arith, spare_inside, room)

  -- all sizes together
  pub sizes_together : {x : Slots ℕ} → SameSlots x (slot_sizes z)
      → x.standing + x.landed + x.asked + x.standing_rows + x.landed_rows + x.step + x.multipliers + x.curvature
      + x.filter ≡ spare_at z
  unfolding start_of
  sizes_together e = omega arith

-- so many numbers from a slot's place on are in the area
pub place_room : (z : Sizes) (k : ℕ) → k < 9 → {at n long : ℕ} → at ≡ start_in z k → n ≤ size_in z k
    → long ≡ area_length z → at + n ≤ long
place_room z k l e f h = omega (arith, slot_room z k l)

-- two slots do not meet
module _ (z : Sizes) (i j : ℕ) {from to n : ℕ} (ei : from ≡ start_in z i) (ej : to ≡ start_in z j) (fi : n ≤ size_in z i)
    (fj : n ≤ size_in z j) where
  by_order : (b : Bool) → ltb i j ≡ b → (b || ltb j i) ≡ true → Apart from to n
  by_order true e o = inr (omega (arith, slot_before (in_order (slot_sizes z)) i j (ltb-true i j e)))
  by_order false e o = inl (omega (arith, slot_before (in_order (slot_sizes z)) j i (ltb-true j i o)))

  pub slots_apart : (ltb i j || ltb j i) ≡ true → Apart from to n
  slots_apart o = by_order (ltb i j) refl o

-- ---- what the slots have room for

module _ (z : Sizes) where
  pub rows_fit : (c : RowCounts) → FewRows c → row_numbers c ≤ (slot_sizes z).standing_rows
  rows_fit c f =
      omega (
        arith,
        few_scalars {n = c.n} {m = c.m} {s = c.s} f.few_variables f.few_constraints f.few_sums,
      )

  pub curvature_fits : (n : ℕ) → n ≤ VARIABLES → 2 * curvature_entries n ≤ (slot_sizes z).curvature
  curvature_fits n h = omega (arith, mul-le-mul {n₁ = n} {m₁ = n} {n₂ = 12} {m₂ = 12} h h)

  -- the curvature that a search goes by is in the area, in plain too
  pub curvature_inside : (plain : Bool) (a : List Float) (n : ℕ) → HasRoom z a → n ≤ VARIABLES
      → pick plain (spare_at z) (places_of z).curvature + 2 * curvature_entries n ≤ length a
  curvature_inside true a n room h = spare_part z a room _ (curvature_fits n h)
  curvature_inside false a n room h = part_inside z a room _ indices.curvature (lit< tt) (curvature_fits n h)

-- ---- what a reader lends

-- the numbers from a place up to so many further
pub lent : (a : List Float) {at place n count : ℕ} → at ≡ place → n ≡ count
    → take (at + n - at) (drop at a) ≡ part_of a place count
lent a {at} {place} {n} {count} p q = let e : at + n - at ≡ count = omega arith in rw (e, p)
