-- The memory while a call works: each list is no longer than its contents can be, so that a slot is cleared by that
-- many numbers alone, and what is read has its whole length; and the violations that are worked out already, which a
-- call hands on. Contracts within the crate cite this.
use Rattle.std.specs.Prelude.{ℕ, ◌+◌, ◌-◌, zero, suc, ◌≤◌, List, ◌++◌, [], ◌≡◌, ◌⊎◌, Float, length, take, drop, get_or}
use Rattle.interval.specs.Result.{Res, ok}
use Rattle.interval.specs.declared.Scalar.{Scalar}
use Rattle.linear.specs.Flat.{zeros}
use Rattle.run.specs.Limits.{ITERATIONS}
use Rattle.run.specs.Area.{Slots, Memory, area_of, start_of, slot_sizes, numbers_in, part_of, standing_counts}
use Rattle.run.specs.Area.{landed_counts, pairs_in}
use Rattle.run.specs.Residuals.{violation_of}
use Rattle.run.specs.Rows.{constraints_of}
use Rattle.run.specs.declared.area.SlotNumbers.{SlotNumbers}
use Rattle.run.specs.declared.rows.RowCounts.{RowCounts}
use Rattle.run.specs.declared.state.Sizes.{Sizes}
use Rattle.run.specs.declared.state.State.{State}
use Rattle.run.specs.program.Rows.{FewRows}

-- ---- slots in the area

-- a number for each slot
abbrev pub numbers_of : SlotNumbers → Slots ℕ
numbers_of x = record {
  standing = x.standing;
  landed = x.landed;
  asked = x.asked;
  standing_rows = x.standing_rows;
  landed_rows = x.landed_rows;
  step = x.step;
  multipliers = x.multipliers;
  curvature = x.curvature;
  filter = x.filter;
}

-- of all slots the standing point's alone
abbrev pub standing_alone : Slots ℕ → Slots ℕ
standing_alone x = record {
  standing = x.standing;
  landed = 0;
  asked = 0;
  standing_rows = 0;
  landed_rows = 0;
  step = 0;
  multipliers = 0;
  curvature = 0;
  filter = 0;
}

-- a with s written from the place `base` on
abbrev pub written : List Float → ℕ → List Float → List Float
written a base s = take base a ++ s ++ drop (base + length s) a

-- so many numbers from one place on, and as many from another, do not meet
abbrev pub Apart : ℕ → ℕ → ℕ → Type 0
Apart from to count = (to + count ≤ from) ⊎ (from + count ≤ to)

-- a list of which the numbers between two places are +0
abbrev pub cleared_between : ℕ → ℕ → List Float → List Float
cleared_between from to xs = take from xs ++ zeros (to - from) ++ drop to xs

-- the first k slots, each with the numbers between two places cleared
unfoldable pub cleared_to : List ℕ → List ℕ → List ℕ → List Float → ℕ → List Float
cleared_to sizes from to a zero = []
cleared_to sizes from to a (suc k) =
    cleared_to sizes from to a k
    ++ cleared_between (get_or from k 0) (get_or to k 0) (part_of a (start_of sizes k) (get_or sizes k 0))

-- ---- the lengths of a memory

-- no list is longer than so many numbers
pub record AtMost (used : Slots ℕ) (w : Memory) : Type 0 where
  pub standing : length w.standing ≤ used.standing
  pub landed : length w.landed ≤ used.landed
  pub asked : length w.asked ≤ used.asked
  pub standing-rows : length w.standing_rows ≤ used.standing_rows
  pub landed-rows : length w.landed_rows ≤ used.landed_rows
  pub step : length w.step ≤ used.step
  pub multipliers : length w.multipliers ≤ used.multipliers
  pub curvature : length w.curvature ≤ used.curvature
  pub filter : length w.filter ≤ used.filter

-- the lengths of all lists
abbrev pub lengths_of : Memory → Slots ℕ
lengths_of w = record {
  standing = length w.standing;
  landed = length w.landed;
  asked = length w.asked;
  standing_rows = length w.standing_rows;
  landed_rows = length w.landed_rows;
  step = length w.step;
  multipliers = length w.multipliers;
  curvature = length w.curvature;
  filter = length w.filter;
}

-- what a search reads has its whole length
pub record StandingWhole (used : Slots ℕ) (w : Memory) : Type 0 where
  pub standing : length w.standing ≡ used.standing
  pub standing-rows : length w.standing_rows ≡ used.standing_rows
  pub curvature : length w.curvature ≡ used.curvature
  pub filter : length w.filter ≡ used.filter

-- and what an answer to a trial reads beside
pub record TrialWhole (used : Slots ℕ) (w : Memory) : Type 0 where
  pub asked : length w.asked ≡ used.asked
  pub step : length w.step ≡ used.step
  pub multipliers : length w.multipliers ≡ used.multipliers

-- and a judgement
pub record LandedWhole (used : Slots ℕ) (w : Memory) : Type 0 where
  pub landed : length w.landed ≡ used.landed
  pub landed-rows : length w.landed_rows ≡ used.landed_rows

-- ---- an area that holds a memory

pub record Holds (z : Sizes) (w : Memory) (a : List Float) : Type 0 where
  pub fits : AtMost (slot_sizes z) w
  pub is : a ≡ area_of z w

-- with so many numbers of each slot in use
pub record Uses (z : Sizes) (used : Slots ℕ) (w : Memory) (a : List Float) : Type 0 where
  pub holds : Holds z w a
  pub lengths : lengths_of w ≡ used

-- with at most so many
pub record Within (z : Sizes) (used : Slots ℕ) (w : Memory) (a : List Float) : Type 0 where
  pub holds : Holds z w a
  pub at_most : AtMost used w

-- an area while a call works
abbrev pub Working : State → Memory → List Float → Type 0
Working st w a = Within st.sizes (numbers_in st) w a

-- and the violation of the standing point, or its refusal, worked out already
pub record WithStanding (z : Sizes) (used : Slots ℕ) (c : RowCounts) (standing : Res Scalar) (w : Memory)
    (a : List Float) : Type 0 where
  pub within : Within z used w a
  pub standing_whole : StandingWhole used w
  pub standing_is : standing ≡ violation_of (constraints_of c w.standing_rows)

-- and that of the landed point
pub record WithViolations (z : Sizes) (used : Slots ℕ) (c d : RowCounts) (theta : Scalar) (landed : Res Scalar)
    (w : Memory) (a : List Float) : Type 0 where
  pub from-standing : WithStanding z used c (ok theta) w a
  pub trial_whole : TrialWhole used w
  pub landed_whole : LandedWhole used w
  pub landed_is : landed ≡ violation_of (constraints_of d w.landed_rows)

abbrev pub StandingKnown : State → Res Scalar → Memory → List Float → Type 0
StandingKnown st standing w a = WithStanding st.sizes (numbers_in st) (standing_counts st) standing w a

abbrev pub ViolationsKnown : State → Scalar → Res Scalar → Memory → List Float → Type 0
ViolationsKnown st theta landed w a =
    WithViolations st.sizes (numbers_in st) (standing_counts st) (landed_counts st) theta landed w a

-- an area that holds a memory of which all is read
pub record AllWhole (z : Sizes) (used : Slots ℕ) (w : Memory) (a : List Float) : Type 0 where
  pub holds : Holds z w a
  pub standing_whole : StandingWhole used w
  pub trial_whole : TrialWhole used w
  pub landed_whole : LandedWhole used w

abbrev pub ReadAll : State → Memory → List Float → Type 0
ReadAll st w a = AllWhole st.sizes (numbers_in st) w a

-- a state whose numbers in use fit the slots
pub record Limits (st : State) : Type 0 where
  pub standing_few : FewRows (standing_counts st)
  pub landed_few : FewRows (landed_counts st)
  pub iterations_fit : pairs_in st ≤ ITERATIONS
