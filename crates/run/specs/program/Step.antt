-- For private functions: a step by its parts, and what no damping changes, prepared once for every damping.
use Rattle.linear.specs.declared.results.LinearError.{LinearError}
use Rattle.std.specs.Prelude.{ℕ, ◌≤◌, Bool, List, ◌≡◌, Float, take, drop, length, Err, None, Ok, Option, Result, Some}
use Rattle.interval.specs.Result.{Res, ok, refused}
use Rattle.interval.specs.Scalar.{pick}
use Rattle.interval.specs.declared.Scalar.{Scalar}
use Rattle.linear.specs.LinearResult.{number_of}
use Rattle.linear.specs.Results.{bind}
use Rattle.run.specs.Basis.{Basis, correction_of}
use Rattle.run.specs.Limits.{VARIABLES, CONSTRAINTS}
use Rattle.run.specs.NullSpace.{Directions, directions_of}
use Rattle.run.specs.Problem.{Kept, Problem, kept_to}
use Rattle.run.specs.Rows.{Evaluation}
use Rattle.run.specs.Step.{Step, Stepped, found, not_positive, spread_step, free_step, kept_step, step_of}
use Rattle.run.specs.Vectors.{matrix, all_finite}
use Rattle.run.specs.program.Problem.{damped_from, gradient_in}
use Rattle.run.specs.program.Reduced.{spanned, curved}
use Rattle.run.specs.declared.step.Dimensions.{Dimensions}
use Rattle.run.specs.declared.step.Prepared.{Prepared}

abbrev pub step_in : List Float → List Float → ℕ → Step
step_in delta lambda r = record { delta = delta; lambda = lambda; independent = r }

abbrev pub end_of : Result (Option ℕ) LinearError → List Float → List Float → Res Stepped
end_of (Ok (Some r)) delta lambda = ok (found (step_in delta lambda r))
end_of (Ok None) delta lambda = ok not_positive
end_of (Err e) delta lambda = refused (number_of e)

-- the step, once its multipliers are solved for, and spread over all variables
unfoldable pub with_multipliers : List Float → ℕ → Res (List Float) → Res Stepped
unfolding bind
with_multipliers delta r lambda = bind lambda (λ l. ok (found (step_in delta l r)))

unfoldable pub spread_end : Kept → Res Stepped → Res Stepped
unfolding bind
spread_end k x = bind x (λ y. ok (spread_step k y))

-- a basis of which only what the multipliers are worked out with is read
abbrev pub basis_for : ℕ → List Float → List Float → List ℕ → Basis
basis_for r q coefficients order = record {
  rank = r;
  q = q;
  gram = matrix;
  coefficients = coefficients;
  dependent = matrix;
  order = order;
}

-- the step from its correction on
unfoldable pub step_from_correction : Problem → Basis → List Float → Res Stepped
unfolding bind
step_from_correction P b delta = bind (directions_of P.k b.rank b.q) (λ d. free_step P b delta d)

-- the step from its basis on
unfoldable pub step_from_basis : Problem → Basis → Res Stepped
unfolding bind
step_from_basis P b = bind (correction_of P b) (λ delta. step_from_correction P b delta)

-- none where H is not finite
unfoldable pub tested_step : Problem → Res Stepped
tested_step P = pick (all_finite P.h 144) (kept_step P) (ok not_positive)

-- ---- what no damping changes

-- how many rows are in the basis, and how many directions are free
abbrev pub independent_in : Result Prepared LinearError → ℕ
independent_in (Ok p) = p.independent
independent_in (Err e) = 0

abbrev pub free_in : Result Prepared LinearError → ℕ
free_in (Ok p) = p.free
free_in (Err e) = 0

-- at most twelve of each
pub record Few (x : Result Prepared LinearError) : Type 0 where
  pub independent : independent_in x ≤ 12
  pub free : free_in x ≤ 12

-- the step over the kept variables from it, for the curvature and the gradient of a problem
abbrev pub ready_step : Result Prepared LinearError → Problem → List Float → List Float → List ℕ → List Float → List Float → Res Stepped
ready_step (Ok p) P q coefficients order delta z =
    free_step P (basis_for p.independent q coefficients order) delta (spanned p.free z)
ready_step (Err e) P q coefficients order delta z = refused (number_of e)

-- ---- the factors: Q, the coefficients, the correction and the directions, one behind the other

abbrev pub basis_with : ℕ → List ℕ → List Float → Basis
basis_with r order factors = basis_for r (take 288 factors) (take 288 (drop 288 factors)) order

abbrev pub directions_with : ℕ → List Float → Directions
directions_with count factors = spanned count (take 288 (drop 600 factors))

abbrev pub step_from_factors : Result Prepared LinearError → Problem → List ℕ → List Float → Res Stepped
step_from_factors x P order factors =
    ready_step x P (take 288 factors) (take 288 (drop 288 factors)) order (take 24 (drop 576 factors))
    (take 288 (drop 600 factors))

-- the slices of the order of the rows and of the factors
pub record FactorLengths (order : List ℕ) (factors : List Float) : Type 0 where
  pub order_length : length order ≡ 24
  pub factors_length : length factors ≡ 888

-- the slices for a step and its multipliers
pub record StepLengths (delta lambda : List Float) : Type 0 where
  pub delta_length : length delta ≡ 24
  pub lambda_length : length lambda ≡ 24

-- at most so many variables, rows and directions
pub record DimensionsFit (d : Dimensions) : Type 0 where
  pub few_kept : d.kept ≤ VARIABLES
  pub few_independent : d.independent ≤ CONSTRAINTS
  pub few_free : d.free ≤ VARIABLES

-- ---- what no damping changes in one list: what is undamped, then the factors

abbrev pub fixed_len : ℕ
fixed_len = 1224

abbrev pub factors_in : List Float → List Float
factors_in fixed = take 888 (drop 336 fixed)

-- with the damping mu; none where H is not finite
unfoldable pub damped_step : ℕ → Result Prepared LinearError → List ℕ → List Float → Scalar → Res Stepped
damped_step k x order fixed mu =
    let h = damped_from k fixed mu in
    pick (all_finite h 144) (step_from_factors x (curved k h (gradient_in fixed)) order (factors_in fixed)) (ok not_positive)

-- over all variables
unfoldable pub prepared_step : ℕ → List Bool → Result Prepared LinearError → List ℕ → List Float → Scalar → Res Stepped
prepared_step n moving x order fixed mu =
    let k = kept_to moving n in
    spread_end k (damped_step k.count x order fixed mu)

pub record PreparedSizes (x : Result Prepared LinearError) (order : List ℕ) (fixed : List Float) : Type 0 where
  pub few : Few x
  pub order_length : length order ≡ 24
  pub fixed_length : length fixed ≡ fixed_len

-- what is prepared gives the step of every damping
pub record PreparedFor (n : ℕ) (e : Evaluation) (b : List Float) (moving : List Bool) (x : Result Prepared LinearError) (order : List ℕ)
    (fixed : List Float) : Type 0 where
  pub sizes : PreparedSizes x order fixed
  pub steps : (mu : Scalar) → prepared_step n moving x order fixed mu ≡ step_of n e b moving mu
