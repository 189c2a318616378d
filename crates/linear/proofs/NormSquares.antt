-- Squares over g are squares times its inverse: one for all, and refused where that is. A positive size is of a list
-- that is not empty.
use mathlib.Core.Path.{◌≡◌, refl}
use mathlib.Core.Bool.{true, false≢true}
use Prim.Native.Nat.{ℕ, zero, suc, ◌<◌}
use native.Mathlib.Nat.{not-suc-le-zero, zero-lt-suc}
use lib.Ieee.{lt}
use Rattle.interval.specs.declared.Scalar.{Scalar}
use Rattle.interval.specs.Result.{ok, refused}
use Rattle.interval.specs.Scalar.{zero_s, inverse_of, definitely_greater}
use Rattle.interval.proofs.Division.{div_value, div_refused}
use Rattle.linear.specs.Dot.{plus_to, dot_to}
use Rattle.linear.specs.Norm.{largest_to, times, scaled_squares}
use Rattle.linear.specs.Results.{bind}

pub squares_value : (f : ℕ → Scalar) (g i : Scalar) (n : ℕ) → inverse_of g ≡ ok i → scaled_squares f g n ≡ ok
    (dot_to (times f i) (times f i) n)
unfolding scaled_squares bind plus_to
squares_value f g i zero e = refl
squares_value f g i (suc n) e = rw (squares_value f g i n e, div_value (f n) g i e)

pub squares_refused : (f : ℕ → Scalar) (g : Scalar) (k n : ℕ) → inverse_of g ≡ refused k → 0 < n
    → scaled_squares f g n ≡ refused k
unfolding scaled_squares bind
squares_refused f g k zero e h = absurd (not-suc-le-zero h)
squares_refused f g k (suc zero) e h = rw (div_refused (f 0) g k e)
squares_refused f g k (suc (suc n)) e h = rw (squares_refused f g k (suc n) e (zero-lt-suc n))

pub some_size : (f : ℕ → Scalar) (n : ℕ) → definitely_greater (largest_to f n) zero_s ≡ true → 0 < n
unfolding largest_to lt
some_size f zero e = absurd (false≢true e)
some_size f (suc n) e = zero-lt-suc n
