-- Vectors of 12 scalars and matrices with rows of 12, as the definitions of a step use them, a point moved by a step,
-- and whether two points are told apart (geop's `Euclidean`).
use Rattle.std.specs.Prelude.{ℕ, ◌*◌, ◌+◌, zero, suc, Bool, true, ◌&&◌, false, ◌||◌, List, Float, get_or}
use Rattle.interval.specs.Result.{Res, ok, refused}
use Rattle.interval.specs.Scalar.{is_finite, zero_s, div_of, neg_of, add_of, sharpen, could_be_equal}
use Rattle.interval.specs.declared.Scalar.{Scalar}
use Rattle.linear.specs.Choose.{choose_of}
use Rattle.linear.specs.Flat.{zeros, along, at, put}
unfoldable pub use Rattle.linear.specs.Flat.{fill_to}
unfoldable pub use Rattle.linear.specs.Scaled.{minus_scaled}

abbrev pub vector : List Float
vector = zeros 24

abbrev pub matrix : List Float
matrix = zeros 288

-- row i and column j of a matrix, and one of its entries
abbrev pub row : List Float → ℕ → ℕ → Scalar
row a i = along a (12 * i) 1

abbrev pub column : List Float → ℕ → ℕ → Scalar
column a j = along a j 12

abbrev pub entry : List Float → ℕ → ℕ → Scalar
entry a i j = at a (12 * i + j)

-- a matrix with the first k entries of its first rows stored
unfoldable pub fill_rows : List Float → (ℕ → ℕ → Scalar) → ℕ → ℕ → List Float
fill_rows xs f k zero = xs
fill_rows xs f k (suc i) = fill_to (fill_rows xs f k i) (12 * i) (f i) k

-- whether all of the first k, or one of them
unfoldable pub all_to : (ℕ → Bool) → ℕ → Bool
all_to p zero = true
all_to p (suc k) = all_to p k && p k

unfoldable pub any_to : (ℕ → Bool) → ℕ → Bool
any_to p zero = false
any_to p (suc k) = any_to p k || p k

abbrev pub all_finite : List Float → ℕ → Bool
all_finite xs k = all_to (λ i. is_finite (at xs i)) k

-- k scalars of xs from the place base on, each chosen, from the start of `to` on
abbrev pub chosen_of : List Float → List Float → ℕ → ℕ → List Float
chosen_of to xs base k = fill_to to 0 (λ i. choose_of (at xs (base + i))) k

-- zero where a division is refused
abbrev pub or_zero : Res Scalar → Scalar
or_zero (ok v) = v
or_zero (refused e) = zero_s

-- v p over a length, chosen
abbrev pub unit_at : (ℕ → Scalar) → Scalar → ℕ → Scalar
unit_at v length p = choose_of (or_zero (div_of (v p) length))

-- d and the first rows of a matrix, each times its weight, chosen after each
unfoldable pub combined_to : ℕ → List Float → List Float → List Float → ℕ → List Float
combined_to k weights rows d zero = d
combined_to k weights rows d (suc t) =
    minus_scaled (combined_to k weights rows d t) 0 (neg_of (at weights t)) rows (12 * t) k

-- the first scalars of `from`, each at the place that the list names, into a vector
unfoldable pub spread_to : List ℕ → List Float → ℕ → List Float
spread_to places from zero = vector
spread_to places from (suc t) = put (spread_to places from t) (get_or places t 0) (at from t)

-- where d takes the point x, sharp (`Euclidean`'s step)
unfoldable pub moved_of : ℕ → List Float → List Float → List Float
moved_of n x d = fill_to vector 0 (λ i. sharpen (add_of (at x i) (at d i))) n

-- no variable is told apart (`Euclidean`'s same)
unfoldable pub same_of : ℕ → List Float → List Float → Bool
same_of n a b = all_to (λ i. could_be_equal (at a i) (at b i)) n
