-- A sum of two numbers of at most 2 ^ k units is at most 2 ^ (k + 1) units before it is rounded, and half of it at most
-- 2 ^ k.
use Rattle.std.proofs.Common.{◌≡◌, ℕ, ◌+◌, ◌*◌, ◌^◌, ◌<◌, Bool, true, false, T, ℤ, sym, ap, ◌∙◌, subst, mul_assoc}
use Rattle.std.proofs.Common.{mul-pos, add-one, arith, lit<}
use native.Mathlib.Nat.{pow-succ'}
use lib.Ieee.{Float, fin, binary64, up, down, add, div, fits}
use lib.Ieee.Fits.{down_pos, div-fits}
use lib.Ieee.Scale.{finite}
use Rattle.interval.specs.declared.Scalar.{Scalar}
use Rattle.interval.specs.Bounded.{Small, Bounded}
use Rattle.interval.specs.Enclosure.{units_of}
use Rattle.interval.specs.Scalar.{two64, add_of, sub_of, neg_of, midpoint}
use Rattle.interval.proofs.Integers.{P, N}
use Rattle.interval.proofs.Rank.{rank, rank_of}
use Rattle.interval.proofs.Enclosure.Add.{pp, nn, over, plain_fits, Rounds, add_rounds}
use Rattle.interval.proofs.Product.{signed_rank}
use Rattle.interval.proofs.Enclosure.Neg.{sub_is}
use Rattle.interval.proofs.Bounded.Power.{parts_small, rounds_small, outward_bounded}
use Rattle.interval.proofs.Bounded.Ends.{bounded_weaken, neg_bounded}

twice : (k : ℕ) → 2 ^ (k + 1) ≡ 2 * 2 ^ k
twice k = ap (λ (z : ℕ). 2 ^ z) (add-one k) ∙ pow-succ' 2 k

pub add_small : (x y : Float) (k : ℕ) → Small x k → Small y k → k + 1 < 2098 → Small (add binary64 x y) (k + 1)
add_small x y k a b K =
    let u = units_of binary64 in
    let p = parts_small x k a in
    let q = parts_small y k b in
    let r = add_rounds x y a.is_float a.is-finite b.is_float b.is-finite in
    rounds_small (add binary64 x y) (P (u x) + P (u y)) (N (u x) + N (u y)) 1 (k + 1) r (lit< tt)
    (omega (arith, twice k)) (omega (arith, twice k)) K

pub add_bounded : (x y : Scalar) (k : ℕ) → Bounded x k → Bounded y k → k + 2 < 2098 → Bounded (add_of x y) (k + 2)
add_bounded x y k a b K =
    bounded_weaken (add_of x y) (k + 1 + 1) (k + 2) (omega arith)
    (outward_bounded (add binary64 x.lo y.lo)
    (add binary64 x.hi y.hi) (k + 1) (add_small x.lo y.lo k a.lo_small b.lo_small (omega arith))
    (add_small x.hi y.hi k a.hi_small b.hi_small (omega arith)) (omega arith))

pub sub_bounded : (x y : Scalar) (k : ℕ) → Bounded x k → Bounded y k → k + 2 < 2098 → Bounded (sub_of x y) (k + 2)
sub_bounded x y k a b K =
    subst (λ (r : Scalar). Bounded r (k + 2)) (sym (sub_is x y)) (add_bounded x (neg_of y) k a (neg_bounded y k b) K)

-- ---- half of a float
half_rank : (s : Bool) (m : ℕ) (e : ℤ) → rank binary64 (div binary64 (fin s m e) two64)
    ≡ rank_of binary64 (pp s (m * up e * 1)) (nn s (m * up e * 1)) (2 * down e)
unfolding div
half_rank false m e = signed_rank binary64 false (m * up e * 1) (2 * down e) (mul-pos (lit< tt) (down_pos e))
half_rank true m e = signed_rank binary64 true (m * up e * 1) (2 * down e) (mul-pos (lit< tt) (down_pos e))

half_rounds : (v : Float) → T (fits binary64 v) → T (finite v)
    → Rounds (div binary64 v two64) (P (units_of binary64 v)) (N (units_of binary64 v)) 2
half_rounds (fin s m e) t h =
    let w = over binary64 s m e 1 (plain_fits s m e t) in
    record {
      num_p = pp s (m * up e * 1);
      num_q = nn s (m * up e * 1);
      den = 2 * down e;
      den_pos = mul-pos (lit< tt) (down_pos e);
      at_rank = half_rank s m e;
      is_p = ap (λ (z : ℕ). z * 2) w.0 ∙ turn (P (units_of binary64 (fin s m e))) (down e);
      is_q = ap (λ (z : ℕ). z * 2) w.1 ∙ turn (N (units_of binary64 (fin s m e))) (down e);
      is_float = div-fits binary64 (fin s m e) two64;
    }
  where
    turn : (u d : ℕ) → u * (d * 1) * 2 ≡ u * (2 * d)
    turn u d = mul_assoc u (d * 1) 2 ∙ ap (λ (z : ℕ). u * z) (omega arith)
half_rounds lib.Ieee.nan t h = elim h [ ]
half_rounds (lib.Ieee.inf _) t h = elim h [ ]

pub half_small : (v : Float) (k : ℕ) → Small v (k + 1) → k < 2098 → Small (div binary64 v two64) k
half_small v k h K =
    let p = parts_small v (k + 1) h in
    rounds_small (div binary64 v two64) (P (units_of binary64 v)) (N (units_of binary64 v)) 2 k
    (half_rounds v h.is_float h.is-finite) (lit< tt) (omega (arith, twice k)) (omega (arith, twice k)) K

-- `sharpen` is the midpoint too
pub midpoint_bounded : (x : Scalar) (k : ℕ) → Bounded x k → k + 1 < 2098 → Bounded (midpoint x) k
midpoint_bounded x k h K =
    let w = half_small (add binary64 x.lo x.hi) k (add_small x.lo x.hi k h.lo_small h.hi_small K)
    (omega arith) in
    record { lo_small = w; hi_small = w }
