-- What a call leaves of the run besides its answer (PROTOCOL, Area and Refusals): an area that is +0
-- wherever no number is in use or, on a refusal by 1 to 4, the state and the area that were handed in.
use Rattle.std.specs.Prelude.{ℕ, ◌+◌, ◌<◌, ◌≤◌, true, false, List, ◌≡◌, Float, length, get_or}
use Rattle.std.specs.Float.{nan}
use Rattle.interval.specs.Scalar.{zero64}
use Rattle.interval.specs.declared.Scalar.{Scalar}
use Rattle.run.specs.Area.{HasRoom, area_length, slot_sizes, used_in, in_order, start_in, spare_at}
use Rattle.run.specs.Calls.{AfterCall, refused_by_check, Follows, Accepted, begin_of, reply_of, reply_none_of}
use Rattle.run.specs.declared.state.Sizes.{Sizes}
use Rattle.run.specs.declared.state.State.{State}

-- the area of a run in this state: +0 in slot k behind its numbers in use, which is all of a slot not in use, and +0 in
-- the last numbers
pub record Cleared (st : State) (a : List Float) : Type 0 where
  pub whole : HasRoom st.sizes a
  pub remainders :
      let sizes = in_order (slot_sizes st.sizes) in
      (k j : ℕ) → k < length sizes → get_or (in_order (used_in st)) k 0 ≤ j → j < get_or sizes k 0 →
      get_or a (start_in st.sizes k + j) nan ≡ zero64
  pub spare : (i : ℕ) → spare_at st.sizes ≤ i → i < area_length st.sizes → get_or a i nan ≡ zero64

-- what a reply to a run leaves, where the run is the state st and the area a
pub record Replied (st : State) (a : List Float) (l : AfterCall) : Type 0 where
  pub sizes_kept : l.state.sizes ≡ st.sizes
  pub cleared : refused_by_check l.event ≡ false → Cleared l.state l.area
  pub unchanged : refused_by_check l.event ≡ true → (l.state ≡ st) × (l.area ≡ a)
  pub follows : refused_by_check l.event ≡ false → Follows st.counts.question l.state l.event

-- demand 1 of the memory (PROTOCOL, Area): what every call leaves, on all contents
pub record Demand1 : Type 0 where
  pub begun :
      (z : Sizes) (start : List Float) (max : Scalar) (a : List Float) →
      let b = begin_of z start max a in
      Accepted b → Cleared b.state b.area
  pub not-begun :
      (z : Sizes) (start : List Float) (max : Scalar) (a : List Float) →
      let b = begin_of z start max a in
      refused_by_check b.event ≡ true → b.area ≡ a
  pub replied : (st : State) (a : List Float) (m : ℕ) (rows : List Float) → Replied st a (reply_of st a m rows)
  pub replied_none : (st : State) (a : List Float) → Replied st a (reply_none_of st a)
