-- For private functions: a standing point by its parts, and what a proposal answers.
use Rattle.std.specs.Prelude.{ℕ, ◌*◌, Bool, List, [], Float, Result, Ok, Err}
use Rattle.interval.specs.Result.{Res, ok, refused}
use Rattle.interval.specs.Scalar.{zero_s, pick}
use Rattle.interval.specs.declared.Scalar.{Scalar}
use Rattle.linear.specs.LinearResult.{number_of}
use Rattle.linear.specs.declared.results.LinearError.{LinearError}
use Rattle.run.specs.Area.{part_of, places_of, spare_at}
use Rattle.run.specs.Curvature.{curvature_entries}
use Rattle.run.specs.declared.rows.RowCounts.{RowCounts}
use Rattle.run.specs.declared.state.Sizes.{Sizes}
use Rattle.run.specs.Proposal.{Standing, Proposal, no_change, ask, not_positive, no_drop, unresolved}
use Rattle.run.specs.Rows.{Evaluation, evaluation_of, Rows, row_numbers}
use Rattle.run.specs.Vectors.{moved_of}
use Rattle.run.specs.program.Step.{PreparedFor}
use Rattle.run.specs.declared.proposal.Proposal as declared
use Rattle.run.specs.declared.proposal.Proposal.TheVariants as p
use Rattle.run.specs.declared.proposal.StandingPoint.{StandingPoint}
use Rattle.run.specs.declared.proposal.Origin.{Origin}
use Rattle.run.specs.declared.step.Prepared.{Prepared}

-- ---- a standing point

-- by its parts
abbrev pub standing_with : ℕ → List Float → Evaluation → Scalar → Scalar → List Float → List Bool → Standing
standing_with n x e f theta b moving = record { n = n; x = x; e = e; f = f; theta = theta; b = b; moving = moving }

-- by its numbers, with its rows and its curvature, the point x and the moving marks
abbrev pub standing_for : StandingPoint → List Float → List Float → List Float → List Bool → Standing
standing_for z rows b x moving =
    standing_with z.counts.n x (evaluation_of z.counts rows) z.f z.theta b moving

-- one of which only some parts are read: all but the moving marks; the model; the point and the constraints
abbrev pub still_for : StandingPoint → List Float → List Float → List Float → Standing
still_for z rows b x = standing_for z rows b x []

abbrev pub model_for : StandingPoint → List Float → List Float → Standing
model_for z rows b = still_for z rows b []

abbrev pub model_of : ℕ → Evaluation → Scalar → Scalar → List Float → Standing
model_of n e f theta b = standing_with n [] e f theta b []

abbrev pub point_of : ℕ → List Float → Rows → Standing
point_of n x c = standing_with n x (record { constraints = c; sum = c }) zero_s zero_s [] []

-- ---- what a search reads of an area

abbrev pub standing_part : Sizes → List Float → List Float
standing_part z a = part_of a (places_of z).standing (2 * z.n)

abbrev pub rows_of : Sizes → RowCounts → List Float → List Float
rows_of z c a = part_of a (places_of z).standing_rows (row_numbers c)

-- the curvature that it goes by; in plain as many of the last numbers, which are +0
abbrev pub curvature_for : Sizes → Bool → List Float → List Float
curvature_for z plain a = part_of a (pick plain (spare_at z) (places_of z).curvature) (2 * curvature_entries z.n)

-- what is prepared gives the step of every damping of the search
abbrev pub PreparedAt : Origin → List Float → Result Prepared LinearError → List ℕ → List Float → Type 0
PreparedAt z a x order fixed =
    let c = z.point.counts in
    PreparedFor c.n (evaluation_of c (rows_of z.sizes c a)) (curvature_for z.sizes z.plain a) z.moving x
    order fixed

-- what it stands on, and where a step leads
abbrev pub standing_in : Origin → List Float → Standing
standing_in z a =
    standing_for z.point (rows_of z.sizes z.point.counts a) (curvature_for z.sizes z.plain a)
    (standing_part z.sizes a) z.moving

abbrev pub next_in : Origin → List Float → List Float → List Float
next_in z a delta = moved_of z.point.counts.n (standing_part z.sizes a) delta

-- ---- what the functions answer

-- with what is written: the step, its multipliers and the point it leads to
abbrev pub proposal_result : Result declared.Proposal LinearError → List Float → List Float → List Float → Res Proposal
proposal_result (Ok p.NotPositive) delta lambda next = ok not_positive
proposal_result (Ok (p.NoDrop r)) delta lambda next = ok (no_drop r)
proposal_result (Ok p.Unresolved) delta lambda next = ok unresolved
proposal_result (Ok p.NoChange) delta lambda next = ok no_change
proposal_result (Ok (p.Ask t)) delta lambda next = ok (ask (record {
  delta = delta;
  lambda = lambda;
  next = next;
  predicted = t.predicted;
  tried = t.tried;
}))
proposal_result (Err k) delta lambda next = refused (number_of k)
