-- What a call reads has its whole length: between two calls the lengths of the memory are those in use by the phase, so
-- each slot's is all that it can have where the phase has it in use, and at most that in any phase.
use Rattle.std.specs.Prelude.{Option, Some}
use Prim.Native.Nat.{ℕ, ◌≤◌}
use mathlib.Core.Bool.{Bool, true, false}
use mathlib.Core.Path.{◌≡◌, ap, ◌∙◌}
use native.Mathlib.Omega.{arith}
use lib.ListN.{length}
use Rattle.interval.specs.Scalar.{pick}
use Rattle.run.specs.Area.{Slots, Memory, each_slot, in_use, is_open, is_tried, is_corrected, numbers_in, used_in}
use Rattle.run.specs.declared.state.Kind.{Kind}
use Rattle.run.specs.declared.state.Kind.TheVariants as kind
use Rattle.run.specs.declared.state.State.{State}
use Rattle.run.specs.program.Area.{AtMost, lengths_of, StandingWhole, TrialWhole, LandedWhole}

-- of so many numbers those in use in a phase
abbrev pub used_by : Option Kind → Slots ℕ → Slots ℕ
used_by p most = each_slot (λ (used : Bool) (count : ℕ). pick used count 0) (in_use p) most

-- what an answer to a question of this kind reads, each of its whole length
pub record AllRead (used : Slots ℕ) (w : Memory) : Type 0 where
  pub standing_whole : StandingWhole used w
  pub trial_whole : TrialWhole used w
  pub landed_whole : LandedWhole used w

pub record TrialRead (used : Slots ℕ) (w : Memory) : Type 0 where
  pub standing_whole : StandingWhole used w
  pub trial_whole : TrialWhole used w

pub record StartRead (used : Slots ℕ) (w : Memory) : Type 0 where
  pub standing : length w.standing ≡ used.standing
  pub asked : length w.asked ≡ used.asked

abbrev pub Read : Kind → Slots ℕ → Memory → Type 0
Read kind.Start used w = StartRead used w
Read kind.Trial used w = TrialRead used w
Read kind.Correction used w = AllRead used w

-- ---- in one phase

module _ {used : Slots ℕ} {w : Memory} where
  by_start : lengths_of w ≡ used_by (Some kind.Start) used → StartRead used w
  by_start e = record { standing = ap (λ (x : Slots ℕ). x.standing) e; asked = ap (λ (x : Slots ℕ). x.asked) e }

  by_trial : lengths_of w ≡ used_by (Some kind.Trial) used → TrialRead used w
  by_trial e =
      record {
        standing_whole = record {
          standing = ap (λ (x : Slots ℕ). x.standing) e;
          standing-rows = ap (λ (x : Slots ℕ). x.standing_rows) e;
          curvature = ap (λ (x : Slots ℕ). x.curvature) e;
          filter = ap (λ (x : Slots ℕ). x.filter) e;
        };
        trial_whole = record {
          asked = ap (λ (x : Slots ℕ). x.asked) e;
          step = ap (λ (x : Slots ℕ). x.step) e;
          multipliers = ap (λ (x : Slots ℕ). x.multipliers) e;
        };
      }

  by_correction : lengths_of w ≡ used_by (Some kind.Correction) used → AllRead used w
  by_correction e =
      record {
        standing_whole = record {
          standing = ap (λ (x : Slots ℕ). x.standing) e;
          standing-rows = ap (λ (x : Slots ℕ). x.standing_rows) e;
          curvature = ap (λ (x : Slots ℕ). x.curvature) e;
          filter = ap (λ (x : Slots ℕ). x.filter) e;
        };
        trial_whole = record {
          asked = ap (λ (x : Slots ℕ). x.asked) e;
          step = ap (λ (x : Slots ℕ). x.step) e;
          multipliers = ap (λ (x : Slots ℕ). x.multipliers) e;
        };
        landed_whole = record {
          landed = ap (λ (x : Slots ℕ). x.landed) e;
          landed-rows = ap (λ (x : Slots ℕ). x.landed_rows) e;
        };
      }

-- ---- between two calls

at_most : (b : Bool) {k n : ℕ} → k ≡ pick b n 0 → k ≤ n
at_most true e = omega (arith, e)
at_most false e = omega (arith, e)

module _ (st : State) (w : Memory) (e : lengths_of w ≡ used_in st) where
  pub standing_length : length w.standing ≡ (numbers_in st).standing
  standing_length = ap (λ (x : Slots ℕ). x.standing) e

  -- in every phase
  pub lengths_at_most : AtMost (numbers_in st) w
  lengths_at_most =
      let p = st.phase in
      record {
        standing = at_most true (ap (λ (x : Slots ℕ). x.standing) e);
        landed = at_most (is_corrected p) (ap (λ (x : Slots ℕ). x.landed) e);
        asked = at_most (is_open p) (ap (λ (x : Slots ℕ). x.asked) e);
        standing-rows = at_most (is_tried p) (ap (λ (x : Slots ℕ). x.standing_rows) e);
        landed-rows = at_most (is_corrected p) (ap (λ (x : Slots ℕ). x.landed_rows) e);
        step = at_most (is_tried p) (ap (λ (x : Slots ℕ). x.step) e);
        multipliers = at_most (is_tried p) (ap (λ (x : Slots ℕ). x.multipliers) e);
        curvature = at_most (is_tried p) (ap (λ (x : Slots ℕ). x.curvature) e);
        filter = at_most (is_tried p) (ap (λ (x : Slots ℕ). x.filter) e);
      }

  in-phase : {p : Option Kind} → st.phase ≡ p → lengths_of w ≡ used_by p (numbers_in st)
  in-phase o = e ∙ ap (λ (p : Option Kind). used_by p (numbers_in st)) o

  -- while a question is open
  pub start_read : st.phase ≡ Some kind.Start → StartRead (numbers_in st) w
  start_read o = by_start (in-phase o)

  pub trial_read : st.phase ≡ Some kind.Trial → TrialRead (numbers_in st) w
  trial_read o = by_trial (in-phase o)

  pub correction_read : st.phase ≡ Some kind.Correction → AllRead (numbers_in st) w
  correction_read o = by_correction (in-phase o)

  pub whole_read : (k : Kind) → st.phase ≡ Some k → Read k (numbers_in st) w
  whole_read kind.Start o = start_read o
  whole_read kind.Trial o = trial_read o
  whole_read kind.Correction o = correction_read o
