-- `step`: the step of the linearized problem by the null-space method, with the constraints' multipliers and the number
-- of independent rows. None where the damped curvature is not positive along the directions that the constraints leave
-- free.
use Rattle.std.specs.Prelude.{ℕ, ◌&&◌, Bool, List, Float}
use Rattle.interval.specs.Result.{Res, ok}
use Rattle.interval.specs.Scalar.{pick}
use Rattle.interval.specs.declared.Scalar.{Scalar}
use Rattle.linear.specs.Cholesky.{cholesky_of}
use Rattle.linear.specs.Results.{bind}
use Rattle.run.specs.Basis.{Basis, multipliers_of, basis_of, correction_of}
use Rattle.run.specs.NullSpace.{Directions, directions_of}
use Rattle.run.specs.Problem.{Problem, Kept, kept_to, problem_of}
use Rattle.run.specs.Reduced.{pull_of, Weights, weights, none, force_of, reduced_of, against_of, weights_of}
use Rattle.run.specs.Rows.{Evaluation}
use Rattle.run.specs.Vectors.{all_finite, combined_to, spread_to}

pub record Step : Type 0 where
  pub delta : List Float
  pub lambda : List Float
  pub independent : ℕ

pub data Stepped : Type 0 where
  found : Step → Stepped
  not_positive : Stepped

-- the step over the kept variables, from its part along Z, and the multipliers; none where the step or the force along
-- it is not finite
unfoldable pub stepped_by : Problem → Basis → List Float → Res Stepped
unfolding bind
stepped_by P b kept =
    let pull = pull_of P kept in
    pick (all_finite kept 12 && all_finite pull 12)
    (bind (multipliers_of P.k b pull)
    (λ lambda. ok (found (record { delta = kept; lambda = lambda; independent = b.rank }))))
    (ok not_positive)

abbrev pub along_z : Problem → Basis → List Float → Directions → Weights → Res Stepped
along_z P b delta d (weights w) = stepped_by P b (combined_to P.k w d.z delta d.count)
along_z P b delta d none = ok not_positive

unfoldable pub free_step : Problem → Basis → List Float → Directions → Res Stepped
unfolding bind
free_step P b delta d =
    bind (cholesky_of d.count (reduced_of P d))
    (λ f. bind (weights_of d.count f (against_of P d (force_of P delta))) (λ w. along_z P b delta d w))

-- over the kept variables
unfoldable pub kept_step : Problem → Res Stepped
unfolding bind
kept_step P =
    bind (basis_of P)
    (λ b.
    bind (correction_of P b)
    (λ delta. bind (directions_of P.k b.rank b.q) (λ d. free_step P b delta d)))

-- over all variables
abbrev pub spread_step : Kept → Stepped → Stepped
spread_step k (found x) = found (record {
  delta = spread_to k.index x.delta k.count;
  lambda = x.lambda;
  independent = x.independent;
})
spread_step k not_positive = not_positive

-- H is not finite: no step
unfoldable pub step_of : ℕ → Evaluation → List Float → List Bool → Scalar → Res Stepped
unfolding bind
step_of n e b moving mu =
    let k = kept_to moving n in
    let P = problem_of n k e b mu in
    pick (all_finite P.h 144) (bind (kept_step P) (λ x. ok (spread_step k x))) (ok not_positive)
