-- A quotient is the product with the divisor's inverse, and is refused where that is: so one inverse serves many
-- quotients.
use Rattle.std.proofs.Common.{◌≡◌, ℕ, Bool, true, false, sym, refl}
use Rattle.interval.specs.declared.Scalar.{Scalar}
use Rattle.interval.specs.Result.{ok, refused}
use Rattle.interval.specs.Scalar.{pick, mul_of, holds_zero, inverse, inverse_of, div_of}
use Rattle.interval.proofs.Results.{refused_ok, ok_inj}

pub inverse_value : (y i : Scalar) → inverse_of y ≡ ok i → (holds_zero y ≡ false) × (i ≡ inverse y)
unfolding inverse_of
inverse_value y i e = by_test (holds_zero y) e
  where
    by_test : (b : Bool) → pick b (refused 6) (ok (inverse y)) ≡ ok i → (b ≡ false) × (i ≡ inverse y)
    by_test true e = absurd (refused_ok e)
    by_test false e = (refl, sym (ok_inj e))

pub div_value : (x y i : Scalar) → inverse_of y ≡ ok i → div_of x y ≡ ok (mul_of x i)
unfolding div_of
div_value x y i e = rw ((inverse_value y i e).0, (inverse_value y i e).1) refl

pub div_refused : (x y : Scalar) (n : ℕ) → inverse_of y ≡ refused n → div_of x y ≡ refused n
unfolding div_of inverse_of
div_refused x y n e = by_test (holds_zero y) e
  where
    by_test : (b : Bool) → pick b (refused 6) (ok (inverse y)) ≡ refused n
        → pick b (refused 6) (ok (mul_of x (inverse y))) ≡ refused n
    by_test true e = cc
    by_test false e = absurd (refused_ok (sym e))
