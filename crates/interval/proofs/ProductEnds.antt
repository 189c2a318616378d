-- The ends of a product and their middle, each said once: what cites them does not look into a product.
use Rattle.std.proofs.Common.{◌≡◌, refl}
use lib.Ieee.{binary64, add, mul, div}
use Rattle.interval.specs.declared.Scalar.{Scalar}
use Rattle.interval.specs.Float.{least, greatest}
use Rattle.interval.specs.Scalar.{mul_of, middle, two64}
use Rattle.interval.specs.Step.{next_up, next_down}

pub product_ends : (x y : Scalar) → mul_of x y ≡ record {
  lo = next_down (least (mul binary64 x.lo y.lo) (mul binary64 x.lo y.hi) (mul binary64 x.hi y.lo)
      (mul binary64 x.hi y.hi));
  hi = next_up (greatest (mul binary64 x.lo y.lo) (mul binary64 x.lo y.hi) (mul binary64 x.hi y.lo)
      (mul binary64 x.hi y.hi));
}
product_ends x y = refl

pub middle_ends : (x y : Scalar) → middle (mul_of x y)
    ≡ div binary64 (add binary64 (next_down (least (mul binary64 x.lo y.lo) (mul binary64 x.lo y.hi)
    (mul binary64 x.hi y.lo) (mul binary64 x.hi y.hi))) (next_up (greatest (mul binary64 x.lo y.lo)
    (mul binary64 x.lo y.hi) (mul binary64 x.hi y.lo) (mul binary64 x.hi y.hi)))) two64
middle_ends x y = refl
