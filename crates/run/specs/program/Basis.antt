-- For private functions: a basis by its parts, as the program stores it, and what its functions are given and answer.
use Rattle.linear.specs.declared.results.LinearError.{LinearError}
use Rattle.std.specs.Prelude.{ℕ, ◌≤◌, ◌<◌, List, [], ◌≡◌, Float, Result}
use Rattle.interval.specs.Result.{Res}
use Rattle.interval.specs.Scalar.{zero_s}
use Rattle.interval.specs.declared.Scalar.{Scalar}
use Rattle.linear.specs.Flat.{zeros}
use Rattle.linear.specs.Norm.{norm_of}
use Rattle.linear.specs.Results.{bind}
use Rattle.run.specs.Basis.{Basis, Taken, no_rows, coefficients_in, outside_at}
use Rattle.run.specs.Limits.{VARIABLES, CONSTRAINTS}
use Rattle.run.specs.Problem.{Problem}
use Rattle.run.specs.Results.{count_of, map_r}
use Rattle.run.specs.Vectors.{matrix}
use Rattle.run.specs.declared.basis.Shape.{Shape}

-- ---- by their parts, as the functions have them

abbrev pub basis_by : ℕ → List Float → List Float → List Float → List Float → List ℕ → Basis
basis_by rank q gram coefficients dependent order =
    record {
      rank = rank;
      q = q;
      gram = gram;
      coefficients = coefficients;
      dependent = dependent;
      order = order;
    }

abbrev pub taken_by : List Float → List Float → Taken
taken_by v coefficients = record { v = v; coefficients = coefficients }

-- a problem's constraints: no more is read here
abbrev pub problem_by : ℕ → ℕ → (ℕ → Scalar) → List Float → List Float → Problem
problem_by k m c wide jc = record { k = k; m = m; c = c; wide = wide; jc = jc; h = []; g = [] }

-- the same, as one row has it
abbrev pub row_problem : ℕ → List Float → List Float → Problem
row_problem k wide jc = problem_by k 0 (λ _. zero_s) wide jc

-- what follows from the coefficients of row i, and from the length of what is left of the row without them
abbrev pub measured_by : Problem → Basis → ℕ → (List Float → Scalar → Res Basis) → Res Basis
measured_by P b i f = bind (coefficients_in P b i) (λ a. bind (norm_of (outside_at P b i a) P.k) (f a))

-- what is written, or the refusal
abbrev pub ranked_of : Result ℕ LinearError → List Float → List Float → List Float → List Float → List ℕ → Res Basis
ranked_of x q gram coefficients dependent order =
    map_r (λ r. basis_by r q gram coefficients dependent order) (count_of x)

-- what is read of a basis once all its rows are passed: all but the Gram factor
abbrev pub bare : Basis → Basis
bare b = basis_by b.rank b.q [] b.coefficients b.dependent b.order

abbrev pub without_gram : Res Basis → Res Basis
without_gram x = map_r bare x

-- ---- what they are given

-- few variables and few rows, of which some are independent
pub record ShapeFits (s : Shape) : Type 0 where
  pub variables : s.k ≤ VARIABLES
  pub rows : s.m ≤ CONSTRAINTS
  pub independent : s.r ≤ s.m

-- the same, and a row is still to come
pub record NextRow (s : Shape) : Type 0 where
  pub variables : s.k ≤ VARIABLES
  pub independent : s.r ≤ s.m
  pub row : s.m < CONSTRAINTS

-- m rows are to come, and what is written of them is clear
pub record FreshBasis (k m : ℕ) (q coefficients dependent : List Float) (order : List ℕ) : Type 0 where
  pub variables : k ≤ VARIABLES
  pub rows : m ≤ CONSTRAINTS
  pub clear : basis_by 0 q matrix coefficients dependent order ≡ no_rows

pub record ForCorrection (s : Shape) (order delta : ℕ) : Type 0 where
  pub few : ShapeFits s
  pub places : order ≡ 24
  pub step : delta ≡ 24

-- a basis to copy, and a clear factors to copy it into
pub record ForPreparing (s : Shape) (q coefficients order : ℕ) (factors : List Float) : Type 0 where
  pub few : ShapeFits s
  pub vectors : q ≡ 288
  pub by_row : coefficients ≡ 288
  pub places : order ≡ 24
  pub clear : factors ≡ zeros 888
