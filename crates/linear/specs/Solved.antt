-- `minus_solved`: from - Jᵀ k with J Jᵀ k = rhs, each value chosen; J has m rows and n columns. Rows of J that say
-- nothing the others do not are left out.
use Rattle.std.specs.Prelude.{ℕ, ◌+◌, ◌*◌, ◌/◌, ◌%◌, ◌≤◌, ◌<◌, ◌≡◌, List, Float}
use Rattle.interval.specs.declared.Scalar.{Scalar}
use Rattle.interval.specs.Result.{Res, ok}
use Rattle.linear.specs.Flat.{at, along, list_to}
use Rattle.linear.specs.Results.{bind}
use Rattle.linear.specs.Dot.{dot_to, minus_to}
use Rattle.linear.specs.Choose.{choose_of}
use Rattle.linear.specs.Cholesky.{Factor, cholesky_of}
use Rattle.linear.specs.Substitution.{solve_of}

-- J Jᵀ
unfoldable pub gram_of : ℕ → ℕ → List Float → List Float
gram_of m n jc = list_to (λ p. dot_to (along jc (p / m * n) 1) (along jc (p % m * n) 1) n) (m * m)

-- an entry of it
abbrev pub gram_at : ℕ → List Float → ℕ → ℕ → Scalar
gram_at n jc i j = dot_to (along jc (i * n) 1) (along jc (j * n) 1) n

-- the first c rows of an m by m matrix hold the entries f up to the diagonal, which are all that a factor reads
abbrev pub LowerRows : (ℕ → ℕ → Scalar) → ℕ → ℕ → List Float → Type 0
LowerRows f m c g = (r k : ℕ) → r < c → k ≤ r → at g (r * m + k) ≡ f r k

-- value i of from - Jᵀ k, chosen
abbrev pub minus_at : ℕ → ℕ → List Float → List Float → List Float → ℕ → Scalar
minus_at m n jc from k i = choose_of (minus_to (along jc i n) (at k) (at from i) m)

unfoldable pub minus_of : ℕ → ℕ → List Float → List Float → List Float → List Float
minus_of m n jc from k = list_to (λ i. choose_of (minus_to (along jc i n) (at k) (at from i) m)) n

-- k, of J Jᵀ k = rhs
unfoldable pub multipliers_of : ℕ → ℕ → List Float → List Float → Res (List Float)
unfolding bind
multipliers_of m n jc rhs = bind (cholesky_of m (gram_of m n jc)) (λ f. solve_of m f.l f.left_out rhs)

unfoldable pub minus_solved_of : ℕ → ℕ → List Float → List Float → List Float → Res (List Float)
unfolding bind
minus_solved_of m n jc rhs from = bind (multipliers_of m n jc rhs) (λ k. ok (minus_of m n jc from k))

-- ---- the same in two, for several right-hand sides with one J

-- the factor of J Jᵀ
unfoldable pub gram_factor_of : ℕ → ℕ → List Float → Res Factor
gram_factor_of m n jc = cholesky_of m (gram_of m n jc)

-- from - Jᵀ k with L Lᵀ k = rhs
unfoldable pub minus_factored_of : ℕ → ℕ → List Float → Factor → List Float → List Float → Res (List Float)
unfolding bind
minus_factored_of m n jc f rhs from = bind (solve_of m f.l f.left_out rhs) (λ k. ok (minus_of m n jc from k))
