-- 2 ^ k units is a pattern, `power k`. A fraction that is at most 2 ^ k units does not round past it, and one step
-- outward does not pass the next power.
use Rattle.std.proofs.Common.{◌≡◌, ℕ, zero, suc, ◌+◌, ◌-◌, ◌*◌, ◌^◌, ◌<◌, ◌≤◌, true, false, T, ℤ, pos, negsuc, nat_abs}
use Rattle.std.proofs.Common.{sym, refl, ap, ◌∙◌, inl, inr, zero-le, le_trans, le_of_eq, lt_irrefl, mul-le-mul_right}
use Rattle.std.proofs.Common.{mul_right_comm, not-le_of_lt, le_of_mul-le-mul_right, sub-le, arith, le→leb, leb→le}
use native.Mathlib.Nat.{pow-succ'}
use lib.Pow.{pow-lt}
use lib.Ieee.{Float, nan, inf, fin, binary64, low, neg, fits}
use lib.Ieee.Fits.{neg-fits}
use lib.Ieee.Scale.{finite}
use Rattle.interval.specs.Bounded.{Small, Bounded}
use Rattle.interval.specs.Enclosure.{units_of}
use Rattle.interval.specs.Pattern.{inf_bits, magnitude}
use Rattle.interval.specs.Scalar.{outward}
use Rattle.interval.specs.Step.{next_up, next_down}
use Rattle.interval.proofs.Integers.{P, N}
use Rattle.interval.proofs.Rounding.{magnitude_lt, at}
use Rattle.interval.proofs.Rank.{rank, le_or_lt, units-P, units-N}
use Rattle.interval.proofs.Outward.{rising, rank_up, up_fits}
use Rattle.interval.proofs.Spacing.{at_most, doubled, magnitude_doubled, magnitude_le, magnitude_infinity}
use Rattle.interval.proofs.Enclosure.Add.{Rounds}
use Rattle.interval.proofs.Enclosure.Neg.{signs}
use Rattle.interval.proofs.Infinite.{neg_finite}

-- ---- the pattern of 2 ^ k units
pub power : ℕ → ℕ
power zero = 1
power (suc k) = doubled binary64 (power k)

one_magnitude : magnitude binary64 1 ≡ 1
unfolding magnitude
one_magnitude = refl

pub power_magnitude : (k : ℕ) → magnitude binary64 (power k) ≡ 2 ^ k
unfolding power
power_magnitude zero = one_magnitude
power_magnitude (suc k) =
    magnitude_doubled binary64 (power k) ∙ ap (λ (z : ℕ). 2 * z) (power_magnitude k) ∙ sym (pow-succ' 2 k)

reflect : (i j : ℕ) → magnitude binary64 i ≤ magnitude binary64 j → i ≤ j
reflect i j h = elim (le_or_lt i j) [ inl k ↦ k | inr k ↦ absurd (not-le_of_lt (magnitude_lt binary64 j i k) h) ]

power_step : (k : ℕ) → power k < power (k + 1)
power_step k = elim (le_or_lt (power (k + 1)) (power k)) [
  | inr g ↦ g
  | inl g ↦ absurd (not-le_of_lt (pow-lt (next k)) (le_trans (le_of_eq (sym (power_magnitude (k + 1))))
      (le_trans (magnitude_le binary64 (power (k + 1)) (power k) g) (le_of_eq (power_magnitude k)))))
]
  where
    next : (k : ℕ) → k < k + 1
    next k = omega arith

pub power_under : (k : ℕ) → k < 2098 → power k < inf_bits binary64
power_under k h = elim (le_or_lt (inf_bits binary64) (power k)) [
  | inr g ↦ g
  | inl g ↦ absurd (not-le_of_lt (pow-lt h) (le_trans (le_of_eq (sym magnitude_infinity))
      (le_trans (magnitude_le binary64 (inf_bits binary64) (power k) g) (le_of_eq (power_magnitude k)))))
]

-- ---- small floats, by their rank
pub abs_le : (z : ℤ) (n : ℕ) → P z ≤ n → N z ≤ n → nat_abs z ≤ n
abs_le (pos a) n p q = p
abs_le (negsuc a) n p q = q

pub parts_le : (z : ℤ) (n : ℕ) → nat_abs z ≤ n → (P z ≤ n) × (N z ≤ n)
parts_le (pos a) n h = (h, zero-le)
parts_le (negsuc a) n h = (zero-le, h)

pub rank_finite : (v : Float) → 0 < rank binary64 v → rank binary64 v < inf_bits binary64 + inf_bits binary64
    → T (finite v)
unfolding rank
rank_finite nan h k = lt_irrefl 0 h
rank_finite (inf true) h k = lt_irrefl 0 h
rank_finite (inf false) h k = lt_irrefl (inf_bits binary64 + inf_bits binary64) k
rank_finite (fin s m e) h k = tt

-- the rank of v is at most b from the zeros' rank
abbrev pub Near : Float → ℕ → Type 0
Near v b = (inf_bits binary64 ≤ rank binary64 v + b) × (rank binary64 v ≤ inf_bits binary64 + b)

pub parts_small : (v : Float) (k : ℕ) → Small v k → (P (units_of binary64 v) ≤ 2 ^ k)
    × (N (units_of binary64 v) ≤ 2 ^ k)
parts_small v k h = parts_le (units_of binary64 v) (2 ^ k) (leb→le (nat_abs (units_of binary64 v)) (2 ^ k) h.at_most)

pub small : (v : Float) (k : ℕ) → T (fits binary64 v) → T (finite v) → P (units_of binary64 v) ≤ 2 ^ k
    → N (units_of binary64 v) ≤ 2 ^ k → Small v k
small v k t f p n = record {
  is_float = t;
  is-finite = f;
  at_most = le→leb (nat_abs (units_of binary64 v)) (2 ^ k) (abs_le (units_of binary64 v) (2 ^ k) p n);
}

pub small_near : (v : Float) (k : ℕ) → Small v k → Near v (power k)
small_near v k h =
    let w = parts_small v k h in
    let p = reflect (rank binary64 v - inf_bits binary64) (power k) (le_trans (le_of_eq
    (sym (units-P binary64 v h.is_float h.is-finite))) (le_trans w.0 (le_of_eq (sym (power_magnitude k))))) in
    let n = reflect (inf_bits binary64 - rank binary64 v) (power k) (le_trans (le_of_eq
    (sym (units-N binary64 v h.is_float h.is-finite))) (le_trans w.1 (le_of_eq (sym (power_magnitude k))))) in
    (omega arith, omega arith)

pub near_small : (v : Float) (k : ℕ) → T (fits binary64 v) → k < 2098 → Near v (power k) → Small v k
near_small v k t K h =
    let u = power_under k K in
    let f = rank_finite v (omega arith) (omega arith) in
    let reach : (i : ℕ) → i ≤ power k → magnitude binary64 i ≤ 2 ^ k =
    λ i g. le_trans (magnitude_le binary64 i (power k) g) (le_of_eq (power_magnitude k)) in
    small v k t f
    (le_trans (le_of_eq (units-P binary64 v t f)) (reach (rank binary64 v - inf_bits binary64) (omega arith)))
    (le_trans (le_of_eq (units-N binary64 v t f)) (reach (inf_bits binary64 - rank binary64 v) (omega arith)))

-- ---- one step outward
pub neg_small : (v : Float) (k : ℕ) → Small v k → Small (neg v) k
neg_small v k h =
    let w = parts_small v k h in
    small (neg v) k (neg-fits binary64 v h.is_float) (neg_finite v h.is-finite)
    (le_trans (le_of_eq (signs v).0) w.1) (le_trans (le_of_eq (signs v).1) w.0)

finite_rising : (v : Float) → T (finite v) → T (rising v)
finite_rising (fin s m e) h = tt
finite_rising nan h = elim h [ ]
finite_rising (inf _) h = elim h [ ]

pub up_small : (v : Float) (k : ℕ) → Small v k → k + 1 < 2098 → Small (next_up v) (k + 1)
up_small v k h K =
    let w = small_near v k h in
    near_small (next_up v) (k + 1) (up_fits v) K
    (omega (arith, rank_up v h.is_float (finite_rising v h.is-finite), power_step k))

pub down_small : (v : Float) (k : ℕ) → Small v k → k + 1 < 2098 → Small (next_down v) (k + 1)
down_small v k h K = neg_small (next_up (neg v)) (k + 1) (up_small (neg v) k (neg_small v k h) K)

pub outward_bounded : (l h : Float) (k : ℕ) → Small l k → Small h k → k + 1 < 2098 → Bounded (outward l h) (k + 1)
outward_bounded l h k a b K = record { lo_small = down_small l k a K; hi_small = up_small h k b K }

-- ---- a rounded fraction
cut : (a b l c d p m : ℕ) → 0 < d → a * l * d ≡ p * c → p ≤ m * d → (a - b) * l ≤ m * c
cut a b l c d p m D e h =
    let k : a * l * d ≤ m * c * d =
    le_trans (le_of_eq e) (le_trans (mul-le-mul_right c h) (le_of_eq (mul_right_comm m d c))) in
    le_trans (mul-le-mul_right l (sub-le a b)) (le_of_mul-le-mul_right k D)

-- v is (p - q) / d units, rounded
pub rounds_small : (v : Float) (p q d k : ℕ) → Rounds v p q d → 0 < d → p ≤ 2 ^ k * d → q ≤ 2 ^ k * d
    → k < 2098 → Small v k
rounds_small v p q d k r D g h K =
    let l = 2 ^ low binary64 in
    let u = power_under k K in
    let side : (a : ℕ) → a * l ≤ 2 ^ k * r.den → at binary64 a r.den ≤ power k = λ a y. at_most binary64 a r.den
    (power k) r.den_pos u (le_trans y (le_of_eq (ap (λ (z : ℕ). z * r.den) (sym (power_magnitude k))))) in
    let x = side (r.num_p - r.num_q) (cut r.num_p r.num_q l r.den d p (2 ^ k) D r.is_p g) in
    let y = side (r.num_q - r.num_p) (cut r.num_q r.num_p l r.den d q (2 ^ k) D r.is_q h) in
    near_small v k r.is_float K (close (rank binary64 v) (inf_bits binary64) (at binary64 (r.num_p - r.num_q)
    r.den) (at binary64 (r.num_q - r.num_p) r.den) (power k) r.at_rank x y)
  where
    close : (v E a b n : ℕ) → v ≡ E + a - b → a ≤ n → b ≤ n → (E ≤ v + n) × (v ≤ E + n)
    close v E a b n e x y = (omega arith, omega arith)
