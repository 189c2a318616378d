-- The root of at most 2 ^ k units is at most 2 ^ j units before it is rounded, where k + 1074 is at most twice j.
use Rattle.std.proofs.Common.{◌≡◌, ℕ, zero, suc, ◌+◌, ◌*◌, ◌/◌, ◌^◌, ◌<◌, ◌≤◌, Bool, true, false, cond, T, ltb, ℤ, sym}
use Rattle.std.proofs.Common.{refl, ap, ◌∙◌, inl, inr, true≢false, zero-le, le_trans, le_of_eq, lt_of_lt_of_le}
use Rattle.std.proofs.Common.{le-add_right, lt_of_le_of_lt, le_of_lt, mul-le-mul_right, zero-lt-suc, mul_assoc}
use Rattle.std.proofs.Common.{mul_comm, mul-le-mul_left, mul-lt-mul_of_pos_right, mul-pos, zero-mul, not-le_of_lt}
use Rattle.std.proofs.Common.{arith, lit<, lt→ltb, pow_pos}
use lib.Ieee.{Float, fin, binary64, low, up, down, lt, fits}
use lib.Ieee.Bits.{is_true}
use lib.Ieee.Fits.{up_pos}
use lib.Ieee.Scale.{finite}
use Rattle.interval.specs.declared.Scalar.{Scalar}
use Rattle.interval.specs.Bounded.{Small, Bounded, BoundedResult}
use Rattle.interval.specs.Enclosure.{units_of}
use Rattle.interval.specs.Result.{ok, refused}
use Rattle.interval.specs.Root.{isqrt, rounded_root, nearest_root}
use Rattle.interval.specs.Scalar.{zero64, pick, outward, clamped, sqrt_of}
use Rattle.interval.proofs.Integers.{P}
use Rattle.interval.proofs.Rank.{le_or_lt}
use Rattle.interval.proofs.RootDigits.{isqrt_is, sq_lt, sticky, sticky_says, near_fits}
use Rattle.interval.proofs.Enclosure.Add.{Rounds}
use Rattle.interval.proofs.Enclosure.Sqrt.{near_rank, zero_units, zero-units-N}
use Rattle.interval.proofs.Bounded.Power.{small, parts_small, rounds_small, outward_bounded}
use Rattle.interval.proofs.Bounded.Ends.{zero_small}
use Rattle.interval.proofs.Bounded.Product.{powers_le}

-- ---- the rounded root
root_rounds : (n : ℕ) → Rounds (rounded_root binary64 n) (2 * isqrt n + sticky (isqrt n) n) 0 2
root_rounds n =
    let l = 2 ^ low binary64 in
    let a = 2 * isqrt n + sticky (isqrt n) n in
    record {
      num_p = a;
      num_q = 0;
      den = 2 * l;
      den_pos = mul-pos (zero-lt-suc 1) (pow_pos (low binary64));
      at_rank = near_rank n;
      is_p = mul_assoc a l 2 ∙ ap (λ (z : ℕ). a * z) (mul_comm l 2);
      is_q = ap (λ (z : ℕ). z * 2) (zero-mul l) ∙ sym (zero-mul (2 * l));
      is_float = near_fits binary64 n;
    }

square_le : (s m : ℕ) → s * s ≤ m * m → s ≤ m
square_le s m h = elim (le_or_lt s m) [
  | inl g ↦ g
  | inr g ↦ absurd (not-le_of_lt
      (lt_of_le_of_lt (mul-le-mul_left m (le_of_lt g)) (mul-lt-mul_of_pos_right g (lt_of_le_of_lt zero-le g))) h)
]

root_le : (n m : ℕ) → n ≤ m * m → 2 * isqrt n + sticky (isqrt n) n ≤ m * 2
root_le n m h = elim (sticky_says (isqrt n) n) [
  | inl w ↦ omega (arith, w.0, sq_lt (isqrt n) m (lt_of_lt_of_le w.1 h))
  | inr w ↦ omega (arith, w.0, square_le (isqrt n) m (le_trans (isqrt_is n).0 h))
]

rounded_small : (n j : ℕ) → n ≤ 2 ^ j * 2 ^ j → j < 2098 → Small (rounded_root binary64 n) j
rounded_small n j h K =
    let r = root_le n (2 ^ j) h in
    rounds_small (rounded_root binary64 n) (2 * isqrt n + sticky (isqrt n) n) 0 2 j (root_rounds n) (lit< tt)
    (omega arith) zero-le K

-- ---- the root of a float that is not below zero
negative : (m : ℕ) (e : ℤ) → lt (fin true (suc m) e) zero64 ≡ false → ⊥
unfolding lt
negative m e h =
    true≢false
    (sym (is_true (ltb 0 (suc m * up e * 1 + 0 * down e)) (lt→ltb 0 (suc m * up e * 1 + 0 * down e) (lt_of_lt_of_le
    (mul-pos (mul-pos (zero-lt-suc m) (up_pos e)) (zero-lt-suc 0)) (le-add_right (suc m * up e * 1) (0 * down e)))))
    ∙ h)

from_units : (v : Float) (k j : ℕ) → T (fits binary64 v) → T (finite v) → P (units_of binary64 v) ≤ 2 ^ k
    → lt v zero64 ≡ false → k + 1074 ≤ j + j → j < 2098 → Small (nearest_root v) j
unfolding nearest_root units_of
from_units (fin s zero e) k j t f h n g K = small (fin s zero e) j t tt (le_trans (le_of_eq (zero_units s e t)) zero-le)
    (le_trans (le_of_eq (zero-units-N s e t)) zero-le)
from_units (fin true (suc m) e) k j t f h n g K = absurd (negative m e n)
from_units (fin false (suc m) e) k j t f h n g K =
    rounded_small (suc m * up e * 2 ^ low binary64 / down e * 2 ^ low binary64) j
    (le_trans (mul-le-mul_right (2 ^ low binary64) h) (powers_le k 1074 j j g)) K
from_units lib.Ieee.nan k j t f h n g K = elim f [ ]
from_units (lib.Ieee.inf _) k j t f h n g K = elim f [ ]

pub root_small : (v : Float) (k j : ℕ) → Small v k → lt v zero64 ≡ false → k + 1074 ≤ j + j → j < 2098
    → Small (nearest_root v) j
root_small v k j h n g K = from_units v k j h.is_float h.is-finite (parts_small v k h).0 n g K

clamped_small : (v : Float) (k j : ℕ) → Small v k → k + 1074 ≤ j + j → j < 2098 → Small (nearest_root (clamped v)) j
unfolding clamped nearest_root
clamped_small v k j h g K = go (lt v zero64) refl
  where
    go : (t : Bool) → lt v zero64 ≡ t → Small (nearest_root (cond t zero64 v)) j
    go true e = zero_small j
    go false e = root_small v k j h e g K

-- ---- the root of an interval
pub sqrt_given : (x : Scalar) → lt x.hi zero64 ≡ false
    → sqrt_of x ≡ ok (outward (nearest_root (clamped x.lo)) (nearest_root x.hi))
unfolding sqrt_of
sqrt_given x h =
    ap (λ (t : Bool). pick t (refused 5) (ok (outward (nearest_root (clamped x.lo)) (nearest_root x.hi)))) h

pub sqrt_bounded : (x : Scalar) (k j : ℕ) → Bounded x k → lt x.hi zero64 ≡ false → k + 1074 ≤ j + j → j + 1 < 2098
    → BoundedResult (sqrt_of x) (j + 1)
sqrt_bounded x k j h n g K =
    let l = nearest_root (clamped x.lo) in
    let u = nearest_root x.hi in
    record {
      result = outward l u;
      given = sqrt_given x n;
      bounded = outward_bounded l u j (clamped_small x.lo k j h.lo_small g (omega arith))
          (root_small x.hi k j h.hi_small n g (omega arith)) K;
    }
