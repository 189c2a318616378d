-- What private functions are given: counts within the limit and slices of the right lengths, which the public function
-- that calls them has checked (PROTOCOL, Refusals: 1 and 2), and runs of places that were found to be inside.
use Rattle.std.specs.Prelude.{ℕ, ◌+◌, ◌*◌, ◌<◌, ◌≤◌, ◌≡◌}
use Rattle.linear.specs.declared.flat.Places.{Places}

-- ---- counts and lengths

-- m rows and n columns
pub record Counts (m n : ℕ) : Type 0 where
  pub rows : m ≤ 24
  pub columns : n ≤ 24

-- the same, and an output slice for n values
pub record OutputLengths (m n out : ℕ) : Type 0 where
  pub rows : m ≤ 24
  pub columns : n ≤ 24
  pub values : out ≡ 2 * n

-- the two slices of a factor of n rows
pub record FactorLengths (n l left : ℕ) : Type 0 where
  pub rows : n ≤ 24
  pub entries : l ≡ 2 * (n * n)
  pub marks : left ≡ n

-- m rows of n slopes, a right-hand side for each row, and a start and an output slice for n values
pub record SolvedLengths (m n jc rhs from out : ℕ) : Type 0 where
  pub rows : m ≤ 24
  pub columns : n ≤ 24
  pub slopes : jc ≡ 2 * (m * n)
  pub sides : rhs ≡ 2 * m
  pub start : from ≡ 2 * n
  pub values : out ≡ 2 * n

-- column j of m rows and r columns, from the diagonal on
pub record Column (m r j : ℕ) : Type 0 where
  pub rows : m ≤ 24
  pub columns : r ≤ 24
  pub row : j < m
  pub column : j < r

-- the first k columns of m rows and r columns, and a mark for each column
pub record MarkedColumns (m r k left : ℕ) : Type 0 where
  pub rows : m ≤ 24
  pub columns : r ≤ 24
  pub among_rows : k ≤ m
  pub among_columns : k ≤ r
  pub marks : left ≡ r

-- ---- places

-- k scalars from base on, step apart, are inside a list of len numbers
abbrev pub Inside : ℕ → ℕ → ℕ → ℕ → Type 0
Inside base step k len = (t : ℕ) → t < k → 2 * (base + t * step) + 1 < len

-- k scalars of each of two runs are inside lists of a and of b numbers
pub record BothInside (a0 sa a b0 sb b k : ℕ) : Type 0 where
  pub first : Inside a0 sa k a
  pub second : Inside b0 sb k b

-- the same by the places of a run
abbrev pub PlacesInside : Places → ℕ → ℕ → Type 0
PlacesInside p k len = Inside p.base p.step k len

-- k scalars of two runs of a list of a numbers, and of a row of a list of b
pub record ThreeInside (a0 a1 sa a b0 b k : ℕ) : Type 0 where
  pub first : Inside a0 sa k a
  pub second : Inside a1 sa k a
  pub row : Inside b0 1 k b
