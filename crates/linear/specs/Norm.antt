-- `norm`: the root of the sum of squares, scaled by the greatest upper end of an absolute value. Of a list with no
-- positive size, an empty one among them, it is the plain root.
use Rattle.std.specs.Prelude.{ℕ, zero, suc}
use Rattle.interval.specs.declared.Scalar.{Scalar}
use Rattle.interval.specs.Result.{Res, ok}
use Rattle.interval.specs.Scalar.{zero_s, pick, add_of, mul_of, div_of, abs_of, sqrt_of, max_of, upper}
use Rattle.interval.specs.Scalar.{definitely_greater}
use Rattle.linear.specs.Results.{bind}
use Rattle.linear.specs.Dot.{dot_to}

-- the greatest upper end among the sizes of the first n, folded from zero: sharp
unfoldable pub largest_to : (ℕ → Scalar) → ℕ → Scalar
largest_to f zero = zero_s
largest_to f (suc n) = max_of (largest_to f n) (upper (abs_of (f n)))

-- each of a list times one scalar
abbrev pub times : (ℕ → Scalar) → Scalar → ℕ → Scalar
times f i j = mul_of (f j) i

-- the sum of the squares of the first n, each over g
unfoldable pub scaled_squares : (ℕ → Scalar) → Scalar → ℕ → Res Scalar
unfolding bind
scaled_squares f g zero = ok zero_s
scaled_squares f g (suc n) = bind (scaled_squares f g n) (λ s. bind (div_of (f n) g) (λ q. ok (add_of s (mul_of q q))))

-- g times the root of a sum
unfoldable pub scaled_root : Scalar → Res Scalar → Res Scalar
unfolding bind
scaled_root g squares = bind squares (λ s. bind (sqrt_of s) (λ r. ok (mul_of g r)))

unfoldable pub norm_of : (ℕ → Scalar) → ℕ → Res Scalar
norm_of f n =
    let g = largest_to f n in
    pick (definitely_greater g zero_s) (scaled_root g (scaled_squares f g n)) (sqrt_of (dot_to f f n))
