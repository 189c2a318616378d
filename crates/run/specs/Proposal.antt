-- What one damping proposes (PROTOCOL, An iteration, points 1 to 4): a step, cut to the radius where it is definitely
-- longer, and the point it leads to.
use Rattle.std.specs.Prelude.{ℕ, Bool, true, List, Float}
use Rattle.interval.specs.Result.{Res, ok}
use Rattle.interval.specs.Scalar.{zero_s, pick, sub_of, definitely_greater, div_of}
use Rattle.interval.specs.declared.Scalar.{Scalar}
use Rattle.linear.specs.Dot.{dot_to}
use Rattle.linear.specs.Flat.{at}
use Rattle.linear.specs.Norm.{norm_of}
use Rattle.linear.specs.Results.{bind}
use Rattle.run.specs.Curvature.{curvature_row}
use Rattle.run.specs.Radius.{cut_of}
use Rattle.run.specs.Residuals.{squared_of, predicted_of}
use Rattle.run.specs.Rows.{Evaluation}
use Rattle.run.specs.Step.{Stepped, found, step_of}
use Rattle.run.specs.Step as step
use Rattle.run.specs.Vectors.{vector, chosen_of, moved_of, same_of}

-- what a search stands on: the standing point x with its rows e, f and violation theta; the curvature b and the moving
-- marks
pub record Standing : Type 0 where
  pub n : ℕ
  pub x : List Float
  pub e : Evaluation
  pub f : Scalar
  pub theta : Scalar
  pub b : List Float
  pub moving : List Bool

-- deltaᵀ B delta
abbrev pub curvature_along : ℕ → List Float → List Float → Scalar
curvature_along n b delta = dot_to (at delta) (λ i. dot_to (curvature_row n b i) (at delta) n) n

-- `expects`: the model expects the step to lower the sum or, asked only then, the violation
unfoldable pub expects_of : Standing → List Float → Res Bool
unfolding bind
expects_of S delta =
    let drop = sub_of (sub_of S.f (squared_of S.e.sum delta S.n)) (curvature_along S.n S.b delta) in
    pick (definitely_greater drop zero_s) (ok true)
    (bind (predicted_of S.e.constraints delta) (λ v. ok (definitely_greater (sub_of S.theta v) zero_s)))

-- a trial: the step and its multipliers, the point it leads to, the violation predicted there, and the step's length
pub record Trial : Type 0 where
  pub delta : List Float
  pub lambda : List Float
  pub next : List Float
  pub predicted : Scalar
  pub tried : Scalar

pub data Proposal : Type 0 where
  not_positive : Proposal
  no_drop : ℕ → Proposal
  unresolved : Proposal
  no_change : Proposal
  ask : Trial → Proposal

-- the point that a chosen step leads to
abbrev pub tried_of : Standing → List Float → List Float → Res Proposal
tried_of S delta lambda =
    let next = moved_of S.n S.x delta in
    bind (predicted_of S.e.constraints delta)
    (λ predicted.
    pick (same_of S.n next S.x) (ok no_change)
    (bind (norm_of (at delta) S.n) (λ tried. ok (ask (record {
      delta = delta;
      lambda = lambda;
      next = next;
      predicted = predicted;
      tried = tried;
    })))))

-- the point that a step leads to, once it is chosen
unfoldable pub trial_of : Standing → List Float → List Float → Res Proposal
unfolding bind
trial_of S step lambda = tried_of S (chosen_of vector step 0 S.n) lambda

-- a step once it is cut, if the model still expects something of it
unfoldable pub shortened_of : Standing → List Float → List Float → Res Proposal
unfolding bind
shortened_of S cut lambda = bind (expects_of S cut) (λ drop. pick drop (trial_of S cut lambda) (ok unresolved))

-- a step that the model expects something of, cut where it is definitely longer than the radius
unfoldable pub within_of : Standing → Scalar → List Float → List Float → Res Proposal
unfolding bind
within_of S radius delta lambda =
    bind (norm_of (at delta) S.n)
    (λ length.
    pick (definitely_greater length radius)
    (bind (div_of radius length) (λ shrink. shortened_of S (cut_of S.n delta shrink) lambda))
    (trial_of S delta lambda))

abbrev pub proposed_by : Standing → Scalar → Stepped → Res Proposal
proposed_by S radius (found s) =
    bind (expects_of S s.delta)
    (λ drop. pick drop (within_of S radius s.delta s.lambda) (ok (no_drop s.independent)))
proposed_by S radius step.not_positive = ok not_positive

unfoldable pub proposal_of : Standing → Scalar → Scalar → Res Proposal
unfolding bind
proposal_of S mu radius = bind (step_of S.n S.e S.b S.moving mu) (λ s. proposed_by S radius s)
