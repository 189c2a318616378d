-- For private functions: what a shift and the answer to a trial are given, what a shift answers, and whether a
-- correction is nearer the constraints.
use Rattle.linear.specs.declared.results.LinearError.{LinearError}
use Rattle.std.specs.Prelude.{ℕ, ◌≤◌, Bool, List, ◌≡◌, Float, Err, Ok, Result, false, true}
use Rattle.interval.specs.Result.{Res, ok, refused}
use Rattle.interval.specs.Scalar.{definitely_less}
use Rattle.interval.specs.declared.Scalar.{Scalar}
use Rattle.linear.specs.LinearResult.{number_of}
use Rattle.linear.specs.Results.{bind}
use Rattle.run.specs.Corrected.{Shift, to, stay}
use Rattle.run.specs.Limits.{VARIABLES, CONSTRAINTS}
use Rattle.run.specs.Rows.{row_numbers, row_counts}
use Rattle.run.specs.program.Endings.{Underway}
use Rattle.run.specs.program.Rows.{FewRows}
use Rattle.run.specs.declared.rows.RowCounts.{RowCounts}
use Rattle.run.specs.declared.state.State.{State}
use Rattle.run.specs.Area.{HasRoom}

-- ---- counts and lengths

-- counts within the limits, and a mark for each variable that there may be
pub record MarkedCounts (c : RowCounts) (moving : ℕ) : Type 0 where
  pub few : FewRows c
  pub marks : moving ≡ VARIABLES

-- the area and an answer's rows, m constraint rows among them, have their lengths, and a trial or a correction is open
pub record RowsToLand (st : State) (area : List Float) (m rows : ℕ) : Type 0 where
  pub whole_area : HasRoom st.sizes area
  pub few_constraints : m ≤ CONSTRAINTS
  pub whole_rows : rows ≡ row_numbers (row_counts st.sizes m)
  pub underway : Underway st

-- ---- what is answered

-- what an answer says, with what the slice for the point holds
abbrev pub shifted_of : Result Bool LinearError → List Float → Res Shift
shifted_of (Ok true) next = ok (to next)
shifted_of (Ok false) next = ok stay
shifted_of (Err e) next = refused (number_of e)

-- whether a correction's rows are nearer the constraints than the landed ones, by the violations of both
abbrev pub nearer_of : Res Scalar → Res Scalar → Res Bool
nearer_of new old = bind new (λ x. bind old (λ y. ok (definitely_less x y)))
