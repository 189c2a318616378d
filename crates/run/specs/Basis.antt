-- An orthonormal basis Q of the constraints' rows, by modified Gram-Schmidt, and each row's coefficients in it. Whether
-- a row is independent of those before it is asked of the unsharpened rows.
use Rattle.std.specs.Prelude.{ℕ, ◌*◌, ◌/◌, ◌%◌, ◌+◌, zero, suc, ◌-◌, false, List, ltb, Float, replicate, set, get_or}
use Rattle.interval.specs.Result.{Res, ok}
use Rattle.interval.specs.Scalar.{div_of, sqrt_of, sharpen, zero_s, pick, definitely_greater, neg_of}
use Rattle.interval.specs.declared.Scalar.{Scalar}
use Rattle.linear.specs.Choose.{choose_of, sharp_of}
use Rattle.linear.specs.Dot.{dot_to, minus_to}
use Rattle.linear.specs.Flat.{list_to, at, put, along}
use Rattle.linear.specs.Householder.{least_squares_of}
use Rattle.linear.specs.Norm.{norm_of}
use Rattle.linear.specs.Results.{bind, fold_r}
use Rattle.linear.specs.Substitution.{solve_of, store_r}
use Rattle.run.specs.Problem.{Problem}
use Rattle.run.specs.Vectors.{matrix, entry, row, column, minus_scaled, vector, fill_to, unit_at, combined_to}
use Rattle.run.specs.Vectors.{spread_to}

-- of the rows so far: `rank` vectors in q, the factor of their Gram matrix, the coefficients of the rows they came
-- from, those of the other rows; order has from place 0 on which rows came into the basis, and from place 12 on which
-- did not
pub record Basis : Type 0 where
  pub rank : ℕ
  pub q : List Float
  pub gram : List Float
  pub coefficients : List Float
  pub dependent : List Float
  pub order : List ℕ

abbrev pub no_rows : Basis
no_rows =
    record { rank = 0; q = matrix; gram = matrix; coefficients = matrix; dependent = matrix; order = replicate 24 0 }

-- the first r rows and columns of a matrix, packed
abbrev pub packed : ℕ → List Float → List Float
packed r a = list_to (λ p. entry a (p / r) (p % r)) (r * r)

-- the coefficients of row i in the basis, through the Gram matrix
unfoldable pub coefficients_in : Problem → Basis → ℕ → Res (List Float)
coefficients_in P b i =
    let r = b.rank in
    solve_of r (packed r b.gram) (replicate r false) (list_to (λ j. dot_to (row P.wide i) (row b.q j) P.k) r)

-- what is left of row i without its coefficients a
abbrev pub outside_at : Problem → Basis → ℕ → List Float → ℕ → Scalar
outside_at P b i a p = minus_to (at a) (column b.q p) (entry P.wide i p) b.rank

-- ---- an independent row

-- v, and the coefficients, once the parts along the first vectors are taken out
pub record Taken : Type 0 where
  pub v : List Float
  pub coefficients : List Float

abbrev pub part_out : ℕ → ℕ → List Float → Taken → ℕ → Taken
part_out k r q t j =
    let a = choose_of (dot_to (at t.v) (row q j) k) in
    record { v = minus_scaled t.v 0 a q (12 * j) k; coefficients = put t.coefficients (12 * r + j) a }

unfoldable pub parts_out : ℕ → ℕ → List Float → Taken → ℕ → Taken
parts_out k r q t zero = t
parts_out k r q t (suc j) = part_out k r q (parts_out k r q t j) j

-- row r of the Gram factor: its entry j, from those before it, and its diagonal
unfoldable pub gram_step : ℕ → ℕ → List Float → List Float → ℕ → Res (List Float)
gram_step k r q gram j =
    store_r gram (12 * r + j)
    (div_of (minus_to (row gram r) (row gram j) (dot_to (row q r) (row q j) k) j) (entry gram j j))

unfoldable pub gram_row : ℕ → ℕ → List Float → List Float → Res (List Float)
unfolding bind fold_r
gram_row k r q gram =
    bind (fold_r (gram_step k r q) gram r)
    (λ g. store_r g (12 * r + r) (sqrt_of (minus_to (row g r) (row g r) (dot_to (row q r) (row q r) k) r)))

-- row i as the newest vector
unfoldable pub extended : Problem → Basis → ℕ → Res Basis
unfolding bind
extended P b i =
    let r = b.rank in
    let t =
    parts_out P.k r b.q
    (record { v = fill_to vector 0 (row P.jc i) P.k; coefficients = b.coefficients }) r in
    bind (norm_of (at t.v) P.k)
    (λ l.
    let q = fill_to b.q (12 * r) (unit_at (along t.v 0 1) (sharpen l)) P.k in
    bind (gram_row P.k r q b.gram)
    (λ gram. ok
    (record {
      rank = r + 1;
      q = q;
      gram = gram;
      coefficients = put t.coefficients (12 * r + r) (sharpen l);
      dependent = b.dependent;
      order = set b.order r i;
    })))

-- a row that says nothing new: its coefficients a, chosen
abbrev pub with_dependent : Basis → ℕ → List Float → Basis
with_dependent b i a =
    let d = i - b.rank in
    record {
      rank = b.rank;
      q = b.q;
      gram = b.gram;
      coefficients = b.coefficients;
      dependent = fill_to b.dependent (12 * d) (λ j. choose_of (at a j)) b.rank;
      order = set b.order (12 + d) i;
    }

unfoldable pub row_step : Problem → Basis → ℕ → Res Basis
unfolding bind
row_step P b i =
    bind (coefficients_in P b i)
    (λ a. bind (norm_of (outside_at P b i a) P.k)
    (λ l. pick (definitely_greater l zero_s) (extended P b i) (ok (with_dependent b i a))))

unfoldable pub basis_of : Problem → Res Basis
unfolding fold_r
basis_of P = fold_r (row_step P) no_rows P.m

-- ---- the least-squares correction of every row, Q y

-- the t-th row in the order of the basis and then of the others: which it is, and its coefficients
abbrev pub order_at : Basis → ℕ → ℕ
order_at b t = pick (ltb t b.rank) (get_or b.order t 0) (get_or b.order (12 + (t - b.rank)) 0)

abbrev pub coefficient_at : Basis → ℕ → ℕ → Scalar
coefficient_at b t j = pick (ltb t b.rank) (entry b.coefficients t j) (entry b.dependent (t - b.rank) j)

unfoldable pub correction_of : Problem → Basis → Res (List Float)
unfolding bind
correction_of P b =
    let r = b.rank in
    let rows = list_to (λ p. coefficient_at b (p / r) (p % r)) (P.m * r) in
    let rhs = list_to (λ t. neg_of (choose_of (P.c (order_at b t)))) P.m in
    bind (least_squares_of P.m r rows rhs) (λ y. ok (combined_to P.k (sharp_of y r) b.q vector r))

-- ---- the multipliers: Rᵀ lambda = Qᵀ pull

-- of the t-th vector, for t = r - 1 - u, from those behind it
unfoldable pub multiplier_step : ℕ → Basis → List Float → List Float → ℕ → Res (List Float)
unfolding bind
multiplier_step k b pull byRow u =
    let t = b.rank - 1 - u in
    bind (div_of
    (minus_to (along b.coefficients (12 * (t + 1) + t) 12) (along byRow (t + 1) 1)
    (dot_to (row b.q t) (at pull) k) u) (entry b.coefficients t t))
    (λ v. ok (put byRow t (choose_of v)))

unfoldable pub multipliers_of : ℕ → Basis → List Float → Res (List Float)
unfolding bind fold_r
multipliers_of k b pull =
    bind (fold_r (multiplier_step k b pull) vector b.rank) (λ byRow. ok (spread_to b.order byRow b.rank))
