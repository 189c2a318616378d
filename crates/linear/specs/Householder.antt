-- `least_squares`: the y with |rows y - rhs| least, by Householder reflections, each value chosen. The rows stand by
-- columns in one list, column t at t * m, the right-hand side last.
use Rattle.std.specs.Prelude.{ℕ, ◌+◌, ◌*◌, ◌-◌, ◌/◌, ◌%◌, min, Bool, true, false, not, ◌||◌, List, ltb, Float, get_or}
use Rattle.std.specs.Prelude.{set, replicate}
use Rattle.interval.specs.declared.Scalar.{Scalar}
use Rattle.interval.specs.Result.{Res, ok, refused}
use Rattle.interval.specs.Scalar.{zero_s, two64, degenerate, pick, neg_of, sub_of, mul_of, div_of, definitely_greater}
use Rattle.interval.specs.Scalar.{definitely_less, definitely_not_equal}
use Rattle.linear.specs.Flat.{at, put, zeros, along, list_to}
use Rattle.linear.specs.Results.{bind, fold_r}
use Rattle.linear.specs.Dot.{dot_to, minus_to}
use Rattle.linear.specs.Choose.{choose_of}
use Rattle.linear.specs.Norm.{norm_of}
use Rattle.linear.specs.Scaled.{minus_scaled}
use Rattle.linear.specs.Substitution.{store_r}
use Rattle.linear.specs.Cholesky.{Factor, factor_of}

-- the columns of m rows of r, and the right-hand side
abbrev pub column_entry : ℕ → ℕ → List Float → List Float → ℕ → Scalar
column_entry m r rows rhs p = pick (ltb (p / m) r) (at rows (p % m * r + p / m)) (at rhs (p % m))

unfoldable pub columns_of : ℕ → ℕ → List Float → List Float → List Float
columns_of m r rows rhs = list_to (column_entry m r rows rhs) ((r + 1) * m)

-- column j from its diagonal on
unfoldable pub tail_of : ℕ → List Float → ℕ → List Float
tail_of m cols j = list_to (along cols (j * m + j) 1) (m - j)

-- the length with the sign that does not cancel
abbrev pub alpha_of : Scalar → Scalar → Scalar
alpha_of x0 length = pick (definitely_less x0 zero_s) length (neg_of length)

-- the normal of the reflection that takes the column x onto its diagonal
unfoldable pub normal_of : List Float → Scalar → List Float
normal_of x length = put x 0 (choose_of (sub_of (at x 0) (alpha_of (at x 0) length)))

-- one column reflected: n of its rows, from base on
unfoldable pub reflect_step : List Float → Scalar → ℕ → ℕ → List Float → Res (List Float)
unfolding bind
reflect_step v vv n base cols =
    bind (div_of (mul_of (dot_to (at v) (along cols base 1) n) (degenerate two64)) vv)
    (λ f. ok (minus_scaled cols base f v 0 n))

-- the columns from column j on reflected, the right-hand side among them
unfoldable pub reflect_to : ℕ → ℕ → List Float → Scalar → List Float → ℕ → Res (List Float)
unfolding fold_r
reflect_to m j v vv cols k = fold_r (λ c t. reflect_step v vv (m - j) ((j + t) * m + j) c) cols k

-- the reflection by the normal v, where v · v is definitely positive
unfoldable pub reflect_by : ℕ → ℕ → ℕ → List Float → List Float → Res (List Float)
reflect_by m r j v cols =
    let vv = choose_of (dot_to (at v) (at v) (m - j)) in
    pick (definitely_greater vv zero_s) (reflect_to m j v vv cols (r + 1 - j)) (ok cols)

abbrev pub with_marks : List Bool → Res (List Float) → Res Factor
with_marks left (ok cols) = ok (factor_of cols left)
with_marks left (refused k) = refused k

-- column j, of which nothing is left: left out
unfoldable pub reflect_with : ℕ → ℕ → ℕ → Factor → Res Scalar → Res Factor
reflect_with m r j f (ok length) =
    pick (definitely_greater length zero_s)
    (with_marks f.left_out (reflect_by m r j (normal_of (tail_of m f.l j) length) f.l))
    (ok (factor_of f.l (set f.left_out j true)))
reflect_with m r j f (refused k) = refused k

unfoldable pub householder_step : ℕ → ℕ → Factor → ℕ → Res Factor
householder_step m r f j = reflect_with m r j f (norm_of (at (tail_of m f.l j)) (m - j))

abbrev pub chosen : Res Scalar → Res Scalar
chosen (ok v) = ok (choose_of v)
chosen (refused k) = refused k

-- y j, for j = k - 1 - t, from those behind it
unfoldable pub value_step : ℕ → ℕ → ℕ → Factor → List Float → ℕ → Res (List Float)
value_step m r k f y t =
    let j = k - 1 - t in
    let d = at f.l (j * m + j) in
    let s = minus_to (along f.l ((j + 1) * m + j) m) (along y (j + 1) 1) (at f.l (r * m + j)) (r - 1 - j) in
    pick (get_or f.left_out j false || not (definitely_not_equal d zero_s)) (ok y) (store_r y j (chosen (div_of s d)))

unfoldable pub least_squares_of : ℕ → ℕ → List Float → List Float → Res (List Float)
unfolding bind fold_r
least_squares_of m r rows rhs =
    let k = min r m in
    bind (fold_r (householder_step m r) (factor_of (columns_of m r rows rhs) (replicate r false)) k)
    (λ f. fold_r (value_step m r k f) (zeros (2 * r)) k)
