-- Scalars in a flat list of numbers: the i-th has its lower end at 2 i and its upper end at 2 i + 1. Reading outside
-- the list gives NaN, and writing there changes nothing.
use Rattle.std.specs.Prelude.{ℕ, zero, suc, ◌+◌, ◌*◌, Bool, List, [], ◌∷◌, ◌++◌, ltb, Float, get_or, set, length}
use Rattle.std.specs.Prelude.{replicate}
use Rattle.std.specs.Float.{nan}
use Rattle.interval.specs.declared.Scalar.{Scalar}
use Rattle.interval.specs.Scalar.{degenerate, zero64, pick}
use Rattle.linear.specs.declared.flat.Places.{Places}

-- whether the i-th scalar is inside the list
abbrev pub inside : List Float → ℕ → Bool
inside xs i = ltb (2 * i + 1) (length xs)

unfoldable pub at : List Float → ℕ → Scalar
at xs i = pick (inside xs i) (record { lo = get_or xs (2 * i) nan; hi = get_or xs (2 * i + 1) nan }) (degenerate nan)

unfoldable pub put : List Float → ℕ → Scalar → List Float
put xs i v = pick (inside xs i) (set (set xs (2 * i) v.lo) (2 * i + 1) v.hi) xs

abbrev pub zeros : ℕ → List Float
zeros n = replicate n zero64

-- the scalars from base on, step apart: a row with step 1, a column with the row's length
unfoldable pub along : List Float → ℕ → ℕ → ℕ → Scalar
along xs base step j = at xs (base + j * step)

-- the same by the places of a run
abbrev pub scalars_at : List Float → Places → ℕ → Scalar
scalars_at xs p = along xs p.base p.step

-- xs with f 0 to f (k - 1) stored from the place base on
unfoldable pub fill_to : List Float → ℕ → (ℕ → Scalar) → ℕ → List Float
fill_to xs base f zero = xs
fill_to xs base f (suc k) = put (fill_to xs base f k) (base + k) (f k)

-- the list of the first n scalars of an index function
unfoldable pub list_to : (ℕ → Scalar) → ℕ → List Float
list_to f zero = []
list_to f (suc n) = list_to f n ++ ((f n).lo ∷ ((f n).hi ∷ []))
