-- The system of a step reduced to the directions that the constraints leave free, and its weights along them.
use Rattle.std.specs.Prelude.{ℕ, ◌*◌, ◌/◌, ◌%◌, false, List, Float, get_or}
use Rattle.interval.specs.Result.{Res, ok}
use Rattle.interval.specs.Scalar.{add_of, neg_of, pick}
use Rattle.interval.specs.declared.Scalar.{Scalar}
use Rattle.linear.specs.Cholesky.{Factor}
use Rattle.linear.specs.Choose.{choose_of, sharp_of}
use Rattle.linear.specs.Dot.{dot_to}
use Rattle.linear.specs.Flat.{at, list_to}
use Rattle.linear.specs.Results.{bind}
use Rattle.linear.specs.Substitution.{solve_of}
use Rattle.run.specs.NullSpace.{Directions}
use Rattle.run.specs.Problem.{Problem}
use Rattle.run.specs.Vectors.{row, vector, fill_to, matrix, fill_rows, any_to}

-- row i of H times v, chosen
abbrev pub h_times_at : Problem → (ℕ → Scalar) → ℕ → Scalar
h_times_at P v i = choose_of (dot_to (row P.h i) v P.k)

-- g + H v, and its negation
unfoldable pub force_of : Problem → List Float → List Float
force_of P v = fill_to vector 0 (λ i. choose_of (add_of (at P.g i) (h_times_at P (at v) i))) P.k

unfoldable pub pull_of : Problem → List Float → List Float
pull_of P v = fill_to vector 0 (λ i. choose_of (neg_of (add_of (at P.g i) (h_times_at P (at v) i)))) P.k

-- Zᵀ H Z, packed, and -Zᵀ force
unfoldable pub reduced_of : Problem → Directions → List Float
reduced_of P d =
    let hz = fill_rows matrix (λ t i. h_times_at P (row d.z t) i) P.k d.count in
    list_to (λ p. choose_of (dot_to (row d.z (p / d.count)) (row hz (p % d.count)) P.k)) (d.count * d.count)

unfoldable pub against_of : Problem → Directions → List Float → List Float
against_of P d force = list_to (λ t. choose_of (neg_of (dot_to (row d.z t) (at force) P.k))) d.count

-- the weights along Z, or none where a pivot is left out
pub data Weights : Type 0 where
  weights : List Float → Weights
  none : Weights

unfoldable pub weights_of : ℕ → Factor → List Float → Res Weights
unfolding bind
weights_of t f rhs =
    pick (any_to (λ i. get_or f.left_out i false) t) (ok none)
    (bind (solve_of t f.l f.left_out rhs) (λ w. ok (weights (sharp_of w t))))
