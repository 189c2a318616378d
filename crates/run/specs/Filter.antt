-- The filter (PROTOCOL, An iteration): f and the violation of every point that stood before.
use Rattle.std.specs.Prelude.{ℕ, ◌*◌, ◌+◌, Bool, ◌||◌, List, ◌∷◌, [], ◌++◌, Float}
use Rattle.interval.specs.Scalar.{definitely_less}
use Rattle.interval.specs.declared.Scalar.{Scalar}
use Rattle.linear.specs.Flat.{at}
use Rattle.run.specs.Vectors.{all_to}

-- the filter: pair i is f and then the violation of the i-th point that stood before the present one
abbrev pub filter_sum : List Float → ℕ → Scalar
filter_sum filter i = at filter (2 * i)

abbrev pub filter_violation : List Float → ℕ → Scalar
filter_violation filter i = at filter (2 * i + 1)

-- for each of the first pairs, f or theta is definitely less
unfoldable pub beats_to : List Float → Scalar → Scalar → ℕ → Bool
beats_to filter f theta count =
    all_to (λ i. definitely_less f (filter_sum filter i) || definitely_less theta (filter_violation filter i)) count

-- the filter with the pair of the point that stood, behind those before it
abbrev pub pair_numbers : Scalar → Scalar → List Float
pair_numbers f theta = f.lo ∷ f.hi ∷ theta.lo ∷ theta.hi ∷ []

unfoldable pub filter_with : List Float → Scalar → Scalar → List Float
filter_with filter f theta = filter ++ pair_numbers f theta
