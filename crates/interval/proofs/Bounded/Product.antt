-- A product of numbers of at most 2 ^ a and 2 ^ b units is at most 2 ^ (a + b - 1074) units before it is rounded. The
-- least and the greatest of the four products are among them.
use Rattle.std.proofs.Common.{◌≡◌, ℕ, suc, ◌+◌, ◌*◌, ◌^◌, ◌<◌, ◌≤◌, true, false, T, ℤ, pos, negsuc, ◌*ℤ◌, nat_abs, sym}
use Rattle.std.proofs.Common.{refl, subst, zero-le, le_trans, le_of_eq, mul-le-mul, arith, leb→le, pow_pos, pow_mono}
use Rattle.std.proofs.Common.{pow-add}
use lib.Ieee.{Float, inf, fin, binary64, low, mul, lt}
use lib.Ieee.Scale.{finite}
use Rattle.interval.specs.declared.Scalar.{Scalar}
use Rattle.interval.specs.Bounded.{Small, Bounded}
use Rattle.interval.specs.Enclosure.{units_of}
use Rattle.interval.specs.Float.{lesser, greater, least, greatest}
use Rattle.interval.specs.Scalar.{spread, mul_of}
use Rattle.interval.proofs.Integers.{P, N, P-neg, N-neg}
use Rattle.interval.proofs.MinMax.{least_is, greatest_is}
use Rattle.interval.proofs.MinMax.{either, either_lesser}
use Rattle.interval.proofs.Product.{mul_rounds}
use Rattle.interval.proofs.Bounded.Power.{rounds_small, outward_bounded}

-- ---- the size of a product
product_parts : (z w : ℤ) (m n : ℕ) → nat_abs z ≤ m → nat_abs w ≤ n → (P (z *ℤ w) ≤ m * n) × (N (z *ℤ w) ≤ m * n)
product_parts (pos a) (pos b) m n h g = (mul-le-mul h g, zero-le)
product_parts (pos a) (negsuc b) m n h g =
    (le_trans (le_of_eq (P-neg (a * suc b))) zero-le, le_trans (le_of_eq (N-neg (a * suc b))) (mul-le-mul h g))
product_parts (negsuc a) (pos b) m n h g =
    (le_trans (le_of_eq (P-neg (suc a * b))) zero-le, le_trans (le_of_eq (N-neg (suc a * b))) (mul-le-mul h g))
product_parts (negsuc a) (negsuc b) m n h g = (mul-le-mul h g, zero-le)

pub powers_le : (a b c d : ℕ) → a + b ≤ c + d → 2 ^ a * 2 ^ b ≤ 2 ^ c * 2 ^ d
powers_le a b c d h = le_trans (le_of_eq (sym (pow-add 2 a b))) (le_trans (pow_mono h) (le_of_eq (pow-add 2 c d)))

pub mul_small : (x y : Float) (a b k : ℕ) → Small x a → Small y b → a + b ≤ k + 1074 → k < 2098
    → Small (mul binary64 x y) k
mul_small x y a b k h g s K =
    let z = units_of binary64 x *ℤ units_of binary64 y in
    let w = product_parts (units_of binary64 x) (units_of binary64 y) (2 ^ a) (2 ^ b) (leb→le
    (nat_abs (units_of binary64 x)) (2 ^ a) h.at_most) (leb→le (nat_abs (units_of binary64 y)) (2 ^ b) g.at_most) in
    let n = powers_le a b k 1074 s in
    rounds_small (mul binary64 x y) (P z) (N z) (2 ^ low binary64) k
    (mul_rounds x y h.is_float h.is-finite g.is_float g.is-finite) (pow_pos (low binary64))
    (le_trans w.0 n) (le_trans w.1 n) K

-- ---- the least and the greatest of four
from_top : (p : Float) → T (finite p) → lesser (inf false) p ≡ p
unfolding lesser lt
from_top (fin s m e) h = refl
from_top lib.Ieee.nan h = elim h [ ]
from_top (inf _) h = elim h [ ]

from_bottom : (p : Float) → T (finite p) → greater (inf true) p ≡ p
unfolding greater lt
from_bottom (fin s m e) h = refl
from_bottom lib.Ieee.nan h = elim h [ ]
from_bottom (inf _) h = elim h [ ]

module _ (p q r s : Float) (k : ℕ) (sp : Small p k) (sq : Small q k) (sr : Small r k) (ss : Small s k) where
  least_small : Small (least p q r s) k
  least_small =
      let A : Float → Type 0 = λ z. Small z k in
      let a : Small (lesser (inf false) p) k = subst A (sym (from_top p sp.is-finite)) sp in
      subst A (sym (least_is p q r s)) (either_lesser _ s A (either_lesser _ r A (either_lesser _ q A a sq) sr) ss)

  greatest_small : Small (greatest p q r s) k
  greatest_small =
      let A : Float → Type 0 = λ z. Small z k in
      let a : Small (greater (inf true) p) k = subst A (sym (from_bottom p sp.is-finite)) sp in
      subst A (sym (greatest_is p q r s)) (either _ s A (either _ r A (either _ q A a sq) sr) ss)

  pub spread_bounded : k + 1 < 2098 → Bounded (spread p q r s) (k + 1)
  spread_bounded K = outward_bounded (least p q r s) (greatest p q r s) k least_small greatest_small K

pub mul_bounded : (x y : Scalar) (a b k : ℕ) → Bounded x a → Bounded y b → a + b ≤ k + 1074 → k + 1 < 2098
    → Bounded (mul_of x y) (k + 1)
mul_bounded x y a b k h g s K =
    let m : (u v : Float) → Small u a → Small v b → Small (mul binary64 u v) k =
    λ u v c d. mul_small u v a b k c d s (omega arith) in
    spread_bounded (mul binary64 x.lo y.lo) (mul binary64 x.lo y.hi) (mul binary64 x.hi y.lo)
    (mul binary64 x.hi y.hi) k
    (m x.lo y.lo h.lo_small g.lo_small) (m x.lo y.hi h.lo_small g.hi_small)
    (m x.hi y.lo h.hi_small g.lo_small) (m x.hi y.hi h.hi_small g.hi_small) K
