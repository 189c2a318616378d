-- The filter as a list of pairs of intervals (PROTOCOL, An iteration), beside the flat numbers that it
-- is kept in: what it means to beat each pair, and the pairs of the flat numbers.
use Rattle.std.specs.Prelude.{ℕ, zero, suc, Bool, ◌||◌, List, [], ◌∷◌, ◌++◌, Float, get_or, length}
use Rattle.interval.specs.Scalar.{definitely_less, zero_s}
use Rattle.interval.specs.declared.Scalar.{Scalar}
use Rattle.run.specs.Filter.{filter_sum, filter_violation}
use Rattle.run.specs.Vectors.{all_to}
use Rattle.run.specs.declared.filter.Pair.{Pair}

-- f or theta is definitely less than the pair's
unfoldable pub beats_pair : Pair → Scalar → Scalar → Bool
beats_pair p f theta = definitely_less f p.f || definitely_less theta p.violation

-- what a place outside a list reads as
abbrev pub no_pair : Pair
no_pair = record { f = zero_s; violation = zero_s }

-- for each pair of a list
unfoldable pub beats_pairs : List Pair → Scalar → Scalar → Bool
beats_pairs pairs f theta = all_to (λ i. beats_pair (get_or pairs i no_pair) f theta) (length pairs)

-- the i-th pair of a flat filter, and its first
abbrev pub pair_at : List Float → ℕ → Pair
pair_at filter i = record { f = filter_sum filter i; violation = filter_violation filter i }

unfoldable pub pairs_to : List Float → ℕ → List Pair
pairs_to filter zero = []
pairs_to filter (suc i) = pairs_to filter i ++ (pair_at filter i ∷ [])
