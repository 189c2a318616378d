-- What crosses to C for a piece that answers neither a scalar nor a slice alone: number 0 and the answer, or the
-- refusal's number and an answer of zeros.
use Rattle.std.specs.Prelude.{ℕ, Bool, true, false, List, Float, None, Option, Some}
use Rattle.interval.specs.declared.Scalar.{Scalar}
use Rattle.interval.specs.Result.{Res, ok, refused}
use Rattle.interval.specs.Scalar.{zero_s, pick}
use Rattle.run.specs.declared.judgement.Judged.{Judged}
use Rattle.run.specs.declared.rows.RowCounts.{RowCounts}
use Rattle.run.specs.Pieces.{Ending, independent, none, StepReply}
use Rattle.run_c.specs.declared.Stepped.{Stepped}
use Rattle.run_c.specs.declared.Decision.{Decision}
use Rattle.run_c.specs.declared.JudgedStep.{JudgedStep}

-- the counts of an answer, which cross one by one
abbrev pub counts_of : ℕ → ℕ → ℕ → RowCounts
counts_of n m s = record { n = n; m = m; s = s }

abbrev pub decision_of : Res Bool → Decision
decision_of (ok b) = record { number = 0; holds = b }
decision_of (refused k) = record { number = k; holds = false }

abbrev pub judged_of : Res Judged → JudgedStep
judged_of (ok j) =
    record { number = 0; length = j.length; lower = j.lower; undecided = j.undecided; contracting = j.contracting }
judged_of (refused k) = record { number = k; length = zero_s; lower = false; undecided = false; contracting = false }

-- the last step's length, if one was taken
abbrev pub last_of : Bool → Scalar → Option Scalar
last_of taken length = pick taken (Some length) None

-- a step with its number of independent rows, or none, and what the slices for it and for its multipliers hold then
abbrev pub stepped_of : Res Ending → Stepped
stepped_of (ok (independent r)) = record { number = 0; found = true; independent = r }
stepped_of (ok none) = record { number = 0; found = false; independent = 0 }
stepped_of (refused k) = record { number = k; found = false; independent = 0 }

pub record StepWritten : Type 0 where
  pub stepped : Stepped
  pub delta : List Float
  pub lambda : List Float

abbrev pub step_written : Stepped → List Float → List Float → StepWritten
step_written x delta lambda = record { stepped = x; delta = delta; lambda = lambda }

abbrev pub step_written_of : StepReply → StepWritten
step_written_of p = step_written (stepped_of p.ended) p.delta p.lambda
