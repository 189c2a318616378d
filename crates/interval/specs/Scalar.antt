-- The operations on scalars, each by the body of the Rust (scalars/mod.rs), over IEEE 754's operations of lib.Ieee.
-- PROTOCOL, Scalars: a scalar is two f64, lo then hi.
use Rattle.std.specs.Prelude.{zero, suc, Bool, true, false, cond, not, ◌&&◌, ◌||◌, ℤ, pos, negsuc}
use lib.Ieee.{Float, fin, binary64, add, sub, mul, div, neg, lt, le, eq, of_int}
use Rattle.std.specs.Float.Ieee.Scale.{finite}
use Rattle.interval.specs.Step.{next_up, next_down}
use Rattle.interval.specs.Float.{greater, fmin, fmax, fabs, least, greatest}
use Rattle.interval.specs.Root.{nearest_root}
use Rattle.interval.specs.Result.{Res, ok, refused}
use Rattle.interval.specs.declared.Scalar.{Scalar}

abbrev pub zero64 : Float
zero64 = fin false 0 (pos 0)

abbrev pub one64 : Float
one64 = fin false 1 (pos 0)

abbrev pub two64 : Float
two64 = fin false 1 (pos 1)

abbrev pub pick : {A : Type 0} → Bool → A → A → A
pick true a b = a
pick false a b = b

-- ---- construction

abbrev pub degenerate : Float → Scalar
degenerate v = record { lo = v; hi = v }

abbrev pub zero_s : Scalar
zero_s = degenerate zero64

-- l stepped down and h stepped up
abbrev pub outward : Float → Float → Scalar
outward l h = record { lo = next_down l; hi = next_up h }

abbrev pub from_i64 : ℤ → Scalar
from_i64 n = degenerate (of_int binary64 n)

abbrev pub ratio : ℤ → ℤ → Float
ratio n d = div binary64 (of_int binary64 n) (of_int binary64 d)

unfoldable pub from_ratio : ℤ → ℤ → Res Scalar
from_ratio n (pos zero) = refused 6
from_ratio n (pos (suc d)) = ok (outward (ratio n (pos (suc d))) (ratio n (pos (suc d))))
from_ratio n (negsuc d) = ok (outward (ratio n (negsuc d)) (ratio n (negsuc d)))

-- ---- arithmetic

abbrev pub add_of : Scalar → Scalar → Scalar
add_of x y = outward (add binary64 x.lo y.lo) (add binary64 x.hi y.hi)

abbrev pub sub_of : Scalar → Scalar → Scalar
sub_of x y = outward (sub binary64 x.lo y.hi) (sub binary64 x.hi y.lo)

abbrev pub spread : Float → Float → Float → Float → Scalar
spread p q r s = outward (least p q r s) (greatest p q r s)

abbrev pub mul_of : Scalar → Scalar → Scalar
mul_of x y =
    spread (mul binary64 x.lo y.lo) (mul binary64 x.lo y.hi)
    (mul binary64 x.hi y.lo) (mul binary64 x.hi y.hi)

abbrev pub neg_of : Scalar → Scalar
neg_of x = record { lo = neg x.hi; hi = neg x.lo }

abbrev pub holds_zero : Scalar → Bool
holds_zero y = le y.lo zero64 && le zero64 y.hi

abbrev pub inverse : Scalar → Scalar
inverse y = outward (div binary64 one64 y.hi) (div binary64 one64 y.lo)

-- the inverse, refused where the interval could be zero
unfoldable pub inverse_of : Scalar → Res Scalar
inverse_of y = pick (holds_zero y) (refused 6) (ok (inverse y))

unfoldable pub div_of : Scalar → Scalar → Res Scalar
div_of x y = pick (holds_zero y) (refused 6) (ok (mul_of x (inverse y)))

-- ---- absolute value and root

unfoldable pub abs_of : Scalar → Scalar
abs_of x =
    pick (le zero64 x.lo) x
    (pick (le x.hi zero64) (neg_of x)
    (record { lo = zero64; hi = fmax (fabs x.lo) (fabs x.hi) }))

-- a lower end below 0 counts as 0
unfoldable pub clamped : Float → Float
clamped x = cond (lt x zero64) zero64 x

unfoldable pub sqrt_of : Scalar → Res Scalar
sqrt_of x = pick (lt x.hi zero64) (refused 5) (ok (outward (nearest_root (clamped x.lo)) (nearest_root x.hi)))

-- ---- three-valued comparisons

abbrev pub could_be_equal : Scalar → Scalar → Bool
could_be_equal x y = le x.lo y.hi && le y.lo x.hi

abbrev pub definitely_not_equal : Scalar → Scalar → Bool
definitely_not_equal x y = lt x.hi y.lo || lt y.hi x.lo

abbrev pub could_be_greater : Scalar → Scalar → Bool
could_be_greater x y = lt y.lo x.hi

abbrev pub definitely_greater : Scalar → Scalar → Bool
definitely_greater x y = lt y.hi x.lo

abbrev pub could_be_less : Scalar → Scalar → Bool
could_be_less x y = lt x.lo y.hi

abbrev pub definitely_less : Scalar → Scalar → Bool
definitely_less x y = lt x.hi y.lo

abbrev pub is_zero : Scalar → Bool
is_zero x = not (could_be_less x zero_s) && not (could_be_greater x zero_s)

abbrev pub is_finite : Scalar → Bool
is_finite x = finite x.lo && finite x.hi

-- ---- ends and middle

-- (lo + hi) / 2: the greatest float at both ends gives infinity
abbrev pub middle : Scalar → Float
middle x = div binary64 (add binary64 x.lo x.hi) two64

abbrev pub midpoint : Scalar → Scalar
midpoint x = degenerate (middle x)

abbrev pub sharpen : Scalar → Scalar
sharpen x = midpoint x

abbrev pub is_sharp : Scalar → Bool
is_sharp x = eq x.lo x.hi

abbrev pub lower : Scalar → Scalar
lower x = degenerate x.lo

abbrev pub upper : Scalar → Scalar
upper x = degenerate x.hi

-- ---- the greater of two

abbrev pub union : Scalar → Scalar → Scalar
union x y = record { lo = fmin x.lo y.lo; hi = fmax x.hi y.hi }

-- the greater lower end and the greater upper end, joined
abbrev pub max_of : Scalar → Scalar → Scalar
max_of x y = union (degenerate (greater x.lo y.lo)) (degenerate (greater x.hi y.hi))
