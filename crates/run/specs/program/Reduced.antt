-- For private functions: the reduced system by its parts, and what the search for its weights answers.
use Rattle.linear.specs.declared.results.LinearError.{LinearError}
use Rattle.std.specs.Prelude.{Bool, ℕ, List, ltb, Float, Err, Ok, Result, false, true}
use Rattle.interval.specs.Result.{Res, ok, refused}
use Rattle.interval.specs.Scalar.{zero_s, pick}
use Rattle.interval.specs.declared.Scalar.{Scalar}
use Rattle.linear.specs.LinearResult.{number_of}
use Rattle.linear.specs.Cholesky.{cholesky_of}
use Rattle.linear.specs.Choose.{choose_of}
use Rattle.linear.specs.Dot.{dot_to}
use Rattle.linear.specs.Flat.{at}
use Rattle.linear.specs.Results.{bind}
use Rattle.run.specs.NullSpace.{Directions}
use Rattle.run.specs.Problem.{Problem}
use Rattle.run.specs.Reduced.{Weights, weights, none, weights_of, force_of, reduced_of, against_of}
use Rattle.run.specs.Vectors.{matrix, row, combined_to}
use Rattle.run.specs.program.NullSpace.{directions_in}

-- ---- what the program keeps and answers

-- a problem of which only the curvature and the gradient are read, and directions of which no remainder is
abbrev pub curved : ℕ → List Float → List Float → Problem
curved k h g = record { k = k; m = 0; c = at g; wide = matrix; jc = matrix; h = h; g = g }

abbrev pub spanned : ℕ → List Float → Directions
spanned count z = directions_in count z matrix

-- an entry of the reduced matrix, from the directions and H times each; +0 above the diagonal, where no factor reads it
unfoldable pub lower_at : ℕ → List Float → List Float → ℕ → ℕ → Scalar
lower_at k z hz i j = pick (ltb i j) zero_s (choose_of (dot_to (row z i) (row hz j) k))

abbrev pub weights_result : Result Bool LinearError → List Float → Res Weights
weights_result (Ok true) w = ok (weights w)
weights_result (Ok false) w = ok none
weights_result (Err e) w = refused (number_of e)

-- the weights for a reduced matrix
unfoldable pub solved_with : ℕ → List Float → List Float → Res Weights
unfolding bind
solved_with t reduced rhs = bind (cholesky_of t reduced) (λ f. weights_of t f rhs)

-- delta with its part along Z
abbrev pub added_to : Problem → List Float → Directions → Weights → Weights
added_to P delta d (weights w) = weights (combined_to P.k w d.z delta d.count)
added_to P delta d none = none

unfoldable pub free_part : Problem → List Float → Directions → Res Weights
unfolding bind
free_part P delta d =
    bind (solved_with d.count (reduced_of P d) (against_of P d (force_of P delta))) (λ w. ok (added_to P delta d w))
