-- Exact sums of squares, over choices inside scalars: what `dot` and `norm` enclose.
use Rattle.std.specs.Prelude.{ℕ, zero, suc, ◌≤◌, ◌<◌, T, ℤ, pos, ◌+ℤ◌, ◌*ℤ◌}
use Rattle.std.specs.Float.Ieee.{le}
use Rattle.interval.specs.declared.Scalar.{Scalar}
use Rattle.interval.specs.Enclosure.{Fits, Finite, Holds, rescaled}

-- the sum of the squares of the first n
unfoldable pub squares_to : (ℕ → ℤ) → ℕ → ℤ
squares_to p zero = pos 0
squares_to p (suc n) = squares_to p n +ℤ p n *ℤ p n

-- the first n are pairs of finite floats
abbrev pub Rows : (ℕ → Scalar) → ℕ → Type 0
Rows f n = (i : ℕ) → i < n → Fits (f i) × Finite (f i)

-- the ends of the first n are in order
abbrev pub Ordered : (ℕ → Scalar) → ℕ → Type 0
Ordered f n = (i : ℕ) → i < n → T (le (f i).lo (f i).hi)

-- p / 2 ^ k is a number between the ends of x, which are finite
pub record Choice (x : Scalar) (p : ℤ) (k : ℕ) : Type 0 where
  pub is-finite : Finite x
  pub inside : Holds x p k

-- p i / 2 ^ k is a choice inside the i-th, for the first n
abbrev pub Chosen : (ℕ → Scalar) → ℕ → (ℕ → ℤ) → ℕ → Type 0
Chosen f n p k = (i : ℕ) → i < n → Choice (f i) (p i) k

-- the same with a power for each choice, p i / 2 ^ j i, where c is at least each power
abbrev pub ChosenEach : (ℕ → Scalar) → ℕ → (ℕ → ℤ) → (ℕ → ℕ) → ℕ → Type 0
ChosenEach f n p j c = (i : ℕ) → i < n → (j i ≤ c) × Choice (f i) (p i) (j i)

-- all of them written over 2 ^ c
abbrev pub rescaled_all : (ℕ → ℤ) → (ℕ → ℕ) → ℕ → ℕ → ℤ
rescaled_all p j c i = rescaled (p i) (j i) c
