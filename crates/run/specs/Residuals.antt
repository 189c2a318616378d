-- What the residuals of an answer say at a point (the Rust's `Rows`): their linearization, the sum of squares, the
-- violation, and which variables move.
use Rattle.std.specs.Prelude.{ℕ, Bool, false, ◌||◌, List, ltb, Float}
use Rattle.interval.specs.Result.{Res}
use Rattle.interval.specs.Scalar.{add_of, zero_s, definitely_not_equal, pick}
use Rattle.interval.specs.declared.Scalar.{Scalar}
use Rattle.linear.specs.Cholesky.{marks_to}
use Rattle.linear.specs.Dot.{dot_to}
use Rattle.linear.specs.Flat.{at}
use Rattle.linear.specs.Norm.{norm_of}
use Rattle.run.specs.Rows.{Rows, value_at, slopes_of, slopes_by, slope_at, Evaluation}
use Rattle.run.specs.Vectors.{any_to}

-- `linearized`: value + slopes delta, over the first d variables. With d = 0 a zero is added to each value
unfoldable pub linearized_at : Rows → List Float → ℕ → ℕ → Scalar
linearized_at e delta d i = add_of (value_at e i) (dot_to (slopes_of e i) (at delta) d)

-- `squared`: with d = 0 it is f, `squared(&[])`
unfoldable pub squared_of : Rows → List Float → ℕ → Scalar
squared_of e delta d = dot_to (linearized_at e delta d) (linearized_at e delta d) e.count

-- `transposed`: the slopes by variable j, each times its weight
unfoldable pub transposed_at : Rows → List Float → ℕ → Scalar
transposed_at e w j = dot_to (slopes_by e j) (at w) e.count

-- f of a point, and its violation, from its rows
abbrev pub sum_squared : Rows → Scalar
sum_squared e = squared_of e e.list 0

unfoldable pub violation_of : Rows → Res Scalar
violation_of e = norm_of (value_at e) e.count

-- the violation that a step leads to, to first order
unfoldable pub predicted_of : Rows → List Float → Res Scalar
predicted_of e delta = norm_of (linearized_at e delta e.n) e.count

-- some slope by variable j is definitely not zero
unfoldable pub depends_on : Rows → ℕ → Bool
depends_on e j = any_to (λ i. definitely_not_equal (slope_at e i j) zero_s) e.count

-- the moving marks: those of the variables that some residual definitely depends on
unfoldable pub moving_of : ℕ → Evaluation → List Bool
moving_of n e = marks_to (λ j. pick (ltb j n) (depends_on e.sum j || depends_on e.constraints j) false) 12
