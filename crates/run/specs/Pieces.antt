-- The pieces of a run as calls of their own: counts and lengths are checked (refusals 1 and 2, with nothing written),
-- then the piece is worked out. Where the scalars refuse, what is written is +0.
use Rattle.linear.specs.declared.results.LinearError.{LinearError}
use Rattle.std.specs.Prelude.{ℕ, ◌*◌, Bool, List, leb, eqb, Float, length, Err, None, Ok, Option, Result, Some}
use Rattle.interval.specs.Result.{Res, ok, refused}
use Rattle.interval.specs.Scalar.{pick}
use Rattle.interval.specs.declared.Scalar.{Scalar}
use Rattle.linear.specs.LinearResult.{number_of}
use Rattle.linear.specs.Flat.{zeros}
use Rattle.linear.specs.Replies.{checked_value, Reply, reply_of, checked}
use Rattle.linear.specs.Results.{bind}
use Rattle.run.specs.Area.{point_len, curvature_len, filter_len}
use Rattle.run.specs.Corrected.{shift_of}
use Rattle.run.specs.Curvature.{along_of, update_curvature, learned_of}
use Rattle.run.specs.Judgement.{Judged, judge_of}
use Rattle.run.specs.Limits.{VARIABLES, CONSTRAINTS, sum_rows, ITERATIONS}
use Rattle.run.specs.Proposal.{expects_of}
use Rattle.run.specs.Radius.{cut_within}
use Rattle.run.specs.Residuals.{squared_of, predicted_of, transposed_at, moving_of}
use Rattle.run.specs.Rows.{row_numbers, evaluation_of}
use Rattle.run.specs.Step.{Stepped, found, not_positive, step_of}
use Rattle.run.specs.Vectors.{vector, fill_to}
use Rattle.run.specs.program.Proposal.{model_of}
use Rattle.run.specs.declared.rows.RowCounts.{RowCounts}

-- ---- the checks

-- counts within the limits, then as many numbers as their rows have
unfoldable pub sized_of : RowCounts → ℕ → Res (Unit {0})
sized_of c count =
    checked_value (leb c.n VARIABLES) 1
    (checked_value (leb c.m CONSTRAINTS) 1
    (checked_value (leb c.s sum_rows) 1
    (checked_value (eqb count (row_numbers c)) 2 (ok tt))))

-- the counts of a second answer, which has an m of its own
abbrev pub next_counts : RowCounts → ℕ → RowCounts
next_counts c m = record { n = c.n; m = m; s = c.s }

-- the counts of both answers within the limits, then as many numbers as the rows of each have
unfoldable pub both_sized : RowCounts → List Float → ℕ → List Float → Res (Unit {0})
unfolding bind
both_sized c rows m next =
    checked_value (leb m CONSTRAINTS) 1
    (bind (sized_of c (length rows)) (λ _. sized_of (next_counts c m) (length next)))

-- what was checked before, then that a count is the one wanted
unfoldable pub wants_of : Res (Unit {0}) → ℕ → ℕ → Res (Unit {0})
unfolding bind
wants_of before count wanted = bind before (λ _. checked_value (eqb count wanted) 2 (ok tt))

-- the counts and the rows, then one and two further counts
abbrev pub fits_one : RowCounts → List Float → ℕ → ℕ → Res (Unit {0})
fits_one c rows a wanted = wants_of (sized_of c (length rows)) a wanted

abbrev pub fits_two : RowCounts → List Float → ℕ → ℕ → ℕ → ℕ → Res (Unit {0})
fits_two c rows a wanted b wanted' = wants_of (fits_one c rows a wanted) b wanted'

-- the checks, then a value, or what is written to x
abbrev pub then : {A : Type 0} → Res (Unit {0}) → Res A → Res A
then (ok _) r = r
then (refused k) r = refused k

abbrev pub then_writes : {A : Type 0} → Res (Unit {0}) → A → Reply A → Reply A
then_writes (ok _) x r = r
then_writes (refused k) x r = record { ended = refused k; out = x }

-- ---- of the rows

-- over the first d variables, which are none or all
abbrev pub variables_read : ℕ → ℕ → ℕ
variables_read n d = pick (eqb d 0) 0 n

unfoldable pub squared_reply : RowCounts → List Float → List Float → ℕ → Res Scalar
squared_reply c rows delta d =
    then (fits_two c rows (length delta) point_len d (variables_read c.n d))
    (ok (squared_of (evaluation_of c rows).sum delta d))

unfoldable pub predicted_reply : RowCounts → List Float → List Float → Res Scalar
predicted_reply c rows delta =
    then (fits_one c rows (length delta) point_len) (predicted_of (evaluation_of c rows).constraints delta)

unfoldable pub transposed_reply : RowCounts → List Float → List Float → List Float → Reply (List Float)
transposed_reply c rows w out =
    then_writes (fits_two c rows (length w) 48 (length out) point_len) out
    (reply_of vector (ok (fill_to vector 0 (transposed_at (evaluation_of c rows).sum w) c.n)))

unfoldable pub moving_reply : RowCounts → List Float → List Bool → Reply (List Bool)
moving_reply c rows marks =
    then_writes (fits_one c rows (length marks) VARIABLES) marks
    (reply_of marks (ok (moving_of c.n (evaluation_of c rows))))

-- ---- of a step that landed

-- at most as many pairs of the filter as a run has iterations
unfoldable pub judge_reply :
    RowCounts → List Float → ℕ → List Float → Scalar → List Float → ℕ → Option Scalar → List Float → Res Judged
judge_reply c rows m next theta filter count last step =
    checked_value (leb count ITERATIONS) 1
    (then (wants_of (wants_of (both_sized c rows m next) (length filter) filter_len) (length step) point_len)
    (judge_of c.n (evaluation_of c rows) (evaluation_of (next_counts c m) next) theta filter count last step))

-- ---- of a step proposed, its correction, and the curvature: 12 rows of 12 scalars, of which n rows of n are used

unfoldable pub expects_reply : RowCounts → List Float → List Float → Scalar → Scalar → List Float → Res Bool
expects_reply c rows b f theta delta =
    then (fits_two c rows (length b) curvature_len (length delta) point_len)
    (expects_of (model_of c.n (evaluation_of c rows) f theta b) delta)

unfoldable pub cut_reply : ℕ → Scalar → List Float → Reply (List Float)
cut_reply n radius delta =
    checked (leb n VARIABLES) 1 delta
    (checked (eqb (length delta) point_len) 2 delta (reply_of vector (cut_within n radius delta)))

unfoldable pub along_reply : RowCounts → List Float → List Float → List Float → Reply (List Float)
along_reply c rows v out =
    then_writes (fits_one c rows (length v) point_len) out
    (checked (eqb (length out) (2 * c.n)) 2 out
    (reply_of (zeros (2 * c.n)) (along_of (evaluation_of c rows).constraints v)))

unfoldable pub shift_reply : RowCounts → List Float → List Bool → List Float → Reply (List Float)
shift_reply c rows moving d =
    then_writes (fits_two c rows (length moving) VARIABLES (length d) point_len) d
    (reply_of vector (shift_of moving (evaluation_of c rows).constraints))

unfoldable pub update_reply :
    RowCounts → List Float → List Float → List Float → ℕ → List Float → List Float → Reply (List Float)
update_reply c b step rows m next lambda =
    let rowsFit = wants_of (both_sized c rows m next) (length b) curvature_len in
    then_writes (wants_of (wants_of rowsFit (length step) point_len) (length lambda) point_len) b
    (reply_of (zeros curvature_len)
    (update_curvature c.n b step (evaluation_of c rows) (evaluation_of (next_counts c m) next) lambda))

unfoldable pub learned_reply : ℕ → List Float → Res Bool
learned_reply n b = checked_value (leb n VARIABLES) 1 (checked_value (eqb (length b) curvature_len) 2 (ok (learned_of n b)))

-- ---- the step: the number of independent rows, or none, and what the slices for it and for its multipliers hold then

pub data Ending : Type 0 where
  independent : ℕ → Ending
  none : Ending

pub record StepReply : Type 0 where
  pub ended : Res Ending
  pub delta : List Float
  pub lambda : List Float

abbrev pub ending_of : Result (Option ℕ) LinearError → Res Ending
ending_of (Ok (Some r)) = ok (independent r)
ending_of (Ok None) = ok none
ending_of (Err k) = refused (number_of k)

abbrev pub step_replied : Result (Option ℕ) LinearError → List Float → List Float → StepReply
step_replied r delta lambda = record { ended = ending_of r; delta = delta; lambda = lambda }

-- the step, or clear slices where there is none
abbrev pub step_reply_of : List Float → List Float → Res Stepped → StepReply
step_reply_of delta lambda (ok (found x)) = record {
  ended = ok (independent x.independent);
  delta = x.delta;
  lambda = x.lambda;
}
step_reply_of delta lambda (ok not_positive) = record { ended = ok none; delta = delta; lambda = lambda }
step_reply_of delta lambda (refused k) = record { ended = refused k; delta = delta; lambda = lambda }

abbrev pub then_steps : Res (Unit {0}) → List Float → List Float → StepReply → StepReply
then_steps (ok _) delta lambda r = r
then_steps (refused k) delta lambda r = record { ended = refused k; delta = delta; lambda = lambda }

unfoldable pub step_reply :
    RowCounts → List Float → List Float → List Bool → Scalar → List Float → List Float → StepReply
step_reply c rows b moving mu delta lambda =
    let rowsFit = fits_two c rows (length b) curvature_len (length moving) VARIABLES in
    then_steps (wants_of (wants_of rowsFit (length delta) point_len) (length lambda) point_len) delta lambda
    (step_reply_of vector vector (step_of c.n (evaluation_of c rows) b moving mu))
