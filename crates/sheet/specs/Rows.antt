-- The rows of a sheet at a point (request (i)), worked out by the interval operations in the order written. The
-- variables are x0, y0, x1 and so on: point i has 2 i and 2 i + 1. A rule's value is (xi - xj)² + (yi - yj)² - D², yi -
-- yj or xi - xj, with squares as products; the sum has each coordinate less what it aims at.
use Rattle.std.specs.Prelude.{ℕ, ◌+◌, ◌*◌, ◌/◌, ◌%◌, List, ◌++◌, eqb, Float, pos, length, get_or}
use Rattle.interval.specs.Scalar.{degenerate, zero_s, one64, two64, add_of, sub_of, mul_of, neg_of, from_i64, pick}
use Rattle.interval.specs.declared.Scalar.{Scalar}
use Rattle.linear.specs.Flat.{at, list_to}
use Rattle.sheet.specs.declared.sheet.Rule.{Rule}
use Rattle.sheet.specs.Rule.{by_kind, level}

-- how far two variables are apart
abbrev pub difference_of : List Float → ℕ → ℕ → Scalar
difference_of x i j = sub_of (at x i) (at x j)

-- an interval times itself
abbrev pub square_of : Scalar → Scalar
square_of s = mul_of s s

unfoldable pub value_of : List Float → Rule → Scalar
value_of x r =
    let xi = 2 * r.first in
    let xj = 2 * r.second in
    by_kind r.kind
    (sub_of (add_of (square_of (difference_of x xi xj)) (square_of (difference_of x (xi + 1) (xj + 1))))
    (square_of (from_i64 (pos r.length))))
    (difference_of x (xi + 1) (xj + 1)) (difference_of x xi xj)

-- the slope by variable v, where that by variable i is s, that by j its negation, and the others are given
abbrev pub slope_by : ℕ → ℕ → Scalar → ℕ → Scalar → Scalar
slope_by i j s v other = pick (eqb v i) s (pick (eqb v j) (neg_of s) other)

abbrev pub one_s : Scalar
one_s = degenerate one64

abbrev pub two_s : Scalar
two_s = degenerate two64

unfoldable pub slope_of : List Float → Rule → ℕ → Scalar
slope_of x r v =
    let xi = 2 * r.first in
    let xj = 2 * r.second in
    by_kind r.kind
    (slope_by xi xj (mul_of two_s (difference_of x xi xj)) v
    (slope_by (xi + 1) (xj + 1) (mul_of two_s (difference_of x (xi + 1) (xj + 1))) v zero_s))
    (slope_by (xi + 1) (xj + 1) one_s v zero_s) (slope_by xi xj one_s v zero_s)

-- the k-th rule
abbrev pub rule_at : List Rule → ℕ → Rule
rule_at rules k = get_or rules k (level 0 0)

-- values of the constraints, their slopes row by row, values of the sum, their slopes row by row
unfoldable pub rows_of : ℕ → List Rule → List Float → List Float → List Float
rows_of n rules x aims =
    list_to (λ k. value_of x (rule_at rules k)) (length rules)
    ++ (list_to (λ p. slope_of x (rule_at rules (p / n)) (p % n)) (length rules * n)
    ++ (list_to (λ i. sub_of (at x i) (at aims i)) n ++ list_to (λ p. pick (eqb (p / n) (p % n)) one_s zero_s) (n * n)))
