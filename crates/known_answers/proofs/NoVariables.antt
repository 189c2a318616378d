-- With no variable and no row there is a step, of no length, and neither the sum nor the violation is expected to drop:
-- each of the two drops is worked out between zeros, and stepped outward it holds 0.
use Rattle.std.specs.Prelude.{Some}
use Prim.Native.Nat.{ℕ, ◌*◌, ◌≤◌}
use mathlib.Core.Bool.{Bool, true, false}
use mathlib.Core.Path.{◌≡◌, refl}
use mathlib.Core.List.{List}
use native.Mathlib.Omega.{arith}
use lib.Ieee.{Float, of_bits, to_bits, neg, add, sub, round, lt, le, eq}
use Rattle.interval.specs.declared.Scalar.{Scalar}
use Rattle.interval.specs.Result.{ok}
use Rattle.interval.specs.Step.{next_up}
use Rattle.interval.specs.Root.{nearest_root}
use Rattle.interval.specs.Scalar.{zero_s, is_finite, clamped, sqrt_of}
use Rattle.linear.specs.Flat.{zeros}
use Rattle.linear.specs.Results.{bind, fold_r}
use Rattle.linear.specs.Dot.{plus_to}
use Rattle.linear.specs.Norm.{largest_to, norm_of}
use Rattle.linear.specs.Cholesky.{cholesky_of, refused_to}
use Rattle.linear.specs.Substitution.{solve_of}
use Rattle.linear.specs.Householder.{least_squares_of}
use Rattle.run.specs.Vectors.{vector, fill_to, fill_rows, any_to, all_finite, combined_to, spread_to}
use Rattle.run.specs.Rows.{evaluation_of}
use Rattle.run.specs.Residuals.{squared_of, predicted_of, violation_of}
use Rattle.run.specs.Problem.{kept_to, damped_of, gradient_of, problem_of}
use Rattle.run.specs.program.Problem.{problem_in}
use Rattle.run.specs.Basis.{basis_of, correction_of, multipliers_of}
use Rattle.run.specs.NullSpace.{directions_of, directions_to}
use Rattle.run.specs.Step.{found, stepped_by, free_step, kept_step, step_of}
use Rattle.run.specs.program.Step.{step_in}
use Rattle.run.specs.Reduced.{pull_of, weights_of}
use Rattle.run.specs.Proposal.{Standing, expects_of, no_drop, proposal_of}
use Rattle.run.specs.program.Proposal.{standing_with}
use Rattle.run.specs.Area.{Memory}
use Rattle.run.specs.Search.{stops, flat_or, search_to, search_of}
use Rattle.run.specs.Answered.{started}
use Rattle.run.specs.Iterate.{iterate, search, left_at}
use Rattle.run.specs.State.{state_with}
use Rattle.run.specs.declared.state.Event.TheVariants.{Finish}
use Rattle.run.specs.declared.state.Kind.TheVariants as kind
use Rattle.run.specs.declared.state.Search.{Search}
use Rattle.run.specs.declared.state.Stop.TheVariants as stop
use Rattle.known_answers.specs.KnownAnswers.{bits, sizes}
use Rattle.known_answers.proofs.Zeros.{zeros_all}

zeros_finite : (n k : ℕ) → 2 * k ≤ n → all_finite (zeros n) k ≡ true
zeros_finite n k h = zeros_all is_finite refl n k h

-- a norm of none is the root of zero
abbrev pub norm_of_none : Scalar
norm_of_none = bits 0x8000_0000_0000_0001 1

root_of_zero : sqrt_of zero_s ≡ ok norm_of_none
unfolding sqrt_of clamped nearest_root of_bits to_bits neg lt le eq next_up
root_of_zero = refl

norm_none : (f : ℕ → Scalar) → norm_of f 0 ≡ sqrt_of zero_s
unfolding norm_of largest_to plus_to lt eq
norm_none f = refl

-- ---- the step

-- a problem of no variables and no constraints
kept-step : (c : ℕ → Scalar) (wide jc h : List Float)
    → kept_step (problem_in 0 0 c wide jc h vector) ≡ ok (found (step_in vector vector 0))
unfolding kept_step bind basis_of fold_r correction_of least_squares_of combined_to directions_of directions_to free_step
    cholesky_of refused_to weights_of any_to solve_of stepped_by pull_of fill_to multipliers_of spread_to
kept-step c wide jc h = rw (zeros_finite 24 12 (omega arith))

step_none : (rows b : List Float) (moving : List Bool) (mu : Scalar)
    → step_of 0 (evaluation_of (record { n = 0; m = 0; s = 0 }) rows) b moving mu ≡ ok (found (step_in vector vector 0))
unfolding step_of problem_of kept_to damped_of fill_rows gradient_of fill_to spread_to bind
step_none rows b moving mu = rw (zeros_finite 288 144 (omega arith), kept-step _ _ _ _)

-- ---- no expected drop

abbrev pub standing : List Float → List Float → List Float → List Bool → Standing
standing x rows b moving = standing_with 0 x
    (evaluation_of (record { n = 0; m = 0; s = 0 }) rows) zero_s norm_of_none b moving

expects_none : (x rows b delta : List Float) (moving : List Bool)
    → expects_of (standing x rows b moving) delta ≡ ok false
unfolding expects_of bind squared_of plus_to predicted_of of_bits to_bits neg lt le eq add sub round next_up
expects_none x rows b delta moving = rw (norm_none _, root_of_zero)

proposal_none : (x rows b : List Float) (moving : List Bool) (mu radius : Scalar)
    → proposal_of (standing x rows b moving) mu radius ≡ ok (no_drop 0)
unfolding proposal_of bind
proposal_none x rows b moving mu radius = rw (step_none rows b moving mu, expects_none x rows b vector moving)

-- ---- the search stops at once

search_none : (x rows b : List Float) (moving : List Bool) (max : Scalar) (y : Search)
    → search_of (standing x rows b moving) max y ≡ stops y (flat_or y 0 0)
unfolding search_of search_to
search_none x rows b moving max y = rw (proposal_none x rows b moving y.mu y.radius)

-- in the first iteration
pub started_none : (mu max : Scalar) (w : Memory) (rows : List Float)
    → (started (state_with (sizes 0 0 5) mu max (Some kind.Start)) w 0 rows).event ≡ Finish (stop.Flat 0 0) 0 0 0
unfolding started iterate search violation_of left_at squared_of plus_to
started_none mu max w rows = rw (norm_none _, root_of_zero, search_none _ _ _ _ _ _)
