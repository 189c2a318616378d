-- Sums of products over index functions, each folded in order.
use Rattle.std.specs.Prelude.{ℕ, zero, suc, ◌&&◌}
use Rattle.interval.specs.declared.Scalar.{Scalar}
use Rattle.interval.specs.Scalar.{zero_s, pick, add_of, sub_of, mul_of, is_sharp}

-- z and the first n products
unfoldable pub plus_to : (ℕ → Scalar) → (ℕ → Scalar) → Scalar → ℕ → Scalar
plus_to f g z zero = z
plus_to f g z (suc n) = add_of (plus_to f g z n) (mul_of (f n) (g n))

-- the first n products, from zero
abbrev pub dot_to : (ℕ → Scalar) → (ℕ → Scalar) → ℕ → Scalar
dot_to f g n = plus_to f g zero_s n

-- z less the first n products
unfoldable pub minus_to : (ℕ → Scalar) → (ℕ → Scalar) → Scalar → ℕ → Scalar
minus_to f g z zero = z
minus_to f g z (suc n) = sub_of (minus_to f g z n) (mul_of (f n) (g n))

-- the first of k pairs from the t-th on that are not both points; t + k where all are
unfoldable pub points_from : (ℕ → Scalar) → (ℕ → Scalar) → ℕ → ℕ → ℕ
points_from f g t zero = t
points_from f g t (suc k) = pick (is_sharp (f t) && is_sharp (g t)) (points_from f g (suc t) k) t
