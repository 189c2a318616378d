-- `cholesky`: the factor L of a symmetric matrix, L Lᵀ = a, with pivots left out, by entries and marks. Only the lower
-- triangle of a is read. Nothing here speaks of the order of work: an entry is given by the entries in the columns
-- before it.
use Rattle.std.specs.Prelude.{ℕ, zero, suc, ◌+◌, ◌*◌, ◌/◌, ◌%◌, Bool, true, false, ◌||◌, List, [], ◌∷◌, ◌++◌, eqb, ltb}
use Rattle.std.specs.Prelude.{Float}
use Rattle.interval.specs.declared.Scalar.{Scalar}
use Rattle.interval.specs.Result.{Res, ok, refused}
use Rattle.interval.specs.Scalar.{one64, zero_s, degenerate, pick, mul_of, div_of, inverse, sqrt_of}
use Rattle.interval.specs.Scalar.{definitely_greater, is_finite}
use Rattle.linear.specs.Flat.{at, list_to}
use Rattle.linear.specs.Dot.{minus_to}

pub data Pivot : Type 0 where
  root : Scalar → Pivot
  left_out_pivot : Pivot

-- whether 1 / root is a finite number
abbrev pub usable : Res Scalar → Bool
usable (ok v) = is_finite v
usable (refused k) = false

-- a root is kept where its reciprocal is finite
unfoldable pub root_pivot : Res Scalar → Res Pivot
root_pivot (ok r) = ok (pick (usable (div_of (degenerate one64) r)) (root r) left_out_pivot)
root_pivot (refused k) = refused k

-- what is left of a diagonal entry: left out unless definitely positive with a root whose reciprocal is finite
unfoldable pub pivot_of : Scalar → Res Pivot
unfolding root_pivot
pivot_of s = pick (definitely_greater s zero_s) (root_pivot (sqrt_of s)) (ok left_out_pivot)

-- an entry below a pivot: over the root, or +0 in a column that is left out
abbrev pub under : Res Pivot → Scalar → Scalar
under (ok (root r)) s = mul_of s (inverse r)
under (ok left_out_pivot) s = zero_s
under (refused k) s = zero_s

-- ---- over the entries of a matrix

-- the first j entries of row i, before the row's own pivot is settled
unfoldable pub row_to : (ℕ → ℕ → Scalar) → ℕ → ℕ → ℕ → Scalar
row_to a zero i k = zero_s
row_to a (suc j) i k =
    let pivot = pivot_of (minus_to (row_to a j j) (row_to a j j) (a j j) j) in
    pick (eqb k j) (under pivot (minus_to (row_to a j i) (row_to a j j) (a i j) j)) (row_to a j i k)

abbrev pub pivot_at : (ℕ → ℕ → Scalar) → ℕ → Res Pivot
pivot_at a i = pivot_of (minus_to (row_to a i i) (row_to a i i) (a i i) i)

abbrev pub is_left_out : Res Pivot → Bool
is_left_out (ok (root r)) = false
is_left_out (ok left_out_pivot) = true
is_left_out (refused k) = false

abbrev pub is_refused : Res Pivot → Bool
is_refused (ok p) = false
is_refused (refused k) = true

abbrev pub diagonal : Res Pivot → Scalar
diagonal (ok (root r)) = r
diagonal (ok left_out_pivot) = zero_s
diagonal (refused k) = zero_s

-- the mark of row i, and the entry of row i and column j: a row that is left out is all +0
unfoldable pub mark_at : (ℕ → ℕ → Scalar) → ℕ → Bool
mark_at a i = is_left_out (pivot_at a i)

unfoldable pub factor_at : (ℕ → ℕ → Scalar) → ℕ → ℕ → Scalar
factor_at a i j =
    pick (mark_at a i) zero_s
    (pick (ltb j i) (row_to a i i j)
    (pick (eqb i j) (diagonal (pivot_at a i)) zero_s))

-- some pivot before row n is refused
unfoldable pub refused_to : (ℕ → ℕ → Scalar) → ℕ → Bool
refused_to a zero = false
refused_to a (suc n) = refused_to a n || is_refused (pivot_at a n)

-- ---- over flat lists

pub record Factor : Type 0 where
  pub l : List Float
  pub left_out : List Bool

abbrev pub factor_of : List Float → List Bool → Factor
factor_of l left = record { l = l; left_out = left }

-- the entry of row i and column j of a flat matrix with n columns
abbrev pub entry : ℕ → List Float → ℕ → ℕ → Scalar
entry n a i j = at a (i * n + j)

unfoldable pub marks_to : (ℕ → Bool) → ℕ → List Bool
marks_to f zero = []
marks_to f (suc n) = marks_to f n ++ (f n ∷ [])

-- 5 is the only number: a root is refused where an end is inverted, and a division by a root whose reciprocal is finite
-- never is
unfoldable pub cholesky_of : ℕ → List Float → Res Factor
cholesky_of n a =
    pick (refused_to (entry n a) n) (refused 5)
    (ok (record {
      l = list_to (λ p. factor_at (entry n a) (p / n) (p % n)) (n * n);
      left_out = marks_to (mark_at (entry n a)) n;
    }))
