-- The root of an interval holds the root of what it holds.
use Rattle.std.proofs.Common.{◌≡◌, ℕ, zero, suc, ◌+◌, ◌*◌, ◌/◌, ◌^◌, ◌<◌, ◌≤◌, Bool, true, false, cond, T, ◌⊎◌, ℤ, pos}
use Rattle.std.proofs.Common.{negsuc, ◌*ℤ◌, sym, refl, ap, ◌∙◌, inl, inr, zero-le, le_trans, le_of_eq, lt_of_lt_of_le}
use Rattle.std.proofs.Common.{le_of_lt, lt_irrefl, mul-le-mul_right, zero-lt-suc, mul_assoc, mul_comm, mul-le-mul}
use Rattle.std.proofs.Common.{mul-pos, zero-mul, mul_right_comm, le_of_mul-le-mul_right, arith, le→leb, pow_pos}
use lib.Signed.{le_z}
use lib.Ieee.{Float, fin, binary64, low, up, down, neg, lt, fits}
use lib.Ieee.Scale.{finite}
use Rattle.interval.specs.declared.Scalar.{Scalar}
use Rattle.interval.specs.Enclosure.{units_of, Fits, Finite, Holds, HoldsRoot}
use Rattle.interval.specs.Pattern.{inf_bits, magnitude}
use Rattle.interval.specs.Root.{isqrt, rounded_root, nearest_root}
use Rattle.interval.specs.Scalar.{clamped, outward}
use Rattle.interval.specs.Step.{next_up, next_down}
use Rattle.interval.proofs.Integers.{P, N, le_of_parts}
use Rattle.interval.proofs.Rank.{rank, rank_of, round_rank, units-P, units-N}
use Rattle.interval.proofs.Enclosure.Add.{to_pos, scaled_le}
use Rattle.interval.proofs.Outward.{above_all, below_all, up_fits, down_fits, up_rank, down_rank, positive_fits}
use Rattle.interval.proofs.Outward.{zero_bits}
use Rattle.interval.proofs.Patterns.{magnitude_zero}
use Rattle.interval.proofs.RootDigits.{isqrt_is, sticky, sticky_says, sticky_le, near_fits}

-- ---- the nearest root is rounded once
pub near_rank : (n : ℕ) → rank binary64 (rounded_root binary64 n)
    ≡ rank_of binary64 (2 * isqrt n + sticky (isqrt n) n) 0 (2 * 2 ^ low binary64)
unfolding rounded_root sticky
near_rank n =
    let a = 2 * isqrt n + sticky (isqrt n) n in
    let c = 2 * 2 ^ low binary64 in
    round_rank binary64 false a c
    ∙ to_pos binary64 a 0 c a (mul-pos (zero-lt-suc 1) (pow_pos (low binary64))) zero-le (omega arith)

cut : (a b l : ℕ) → 0 < l → a * (2 * l) ≤ b * l → 2 * a ≤ b
cut a b l L h = le_of_mul-le-mul_right (le_trans (le_of_eq (mul_right_comm 2 a l ∙ mul_comm (2 * l) a)) h) L

cut' : (a b l : ℕ) → 0 < l → b * l ≤ a * (2 * l) → b ≤ 2 * a
cut' a b l L h = le_of_mul-le-mul_right (le_trans h (le_of_eq (sym (mul_right_comm 2 a l ∙ mul_comm (2 * l) a)))) L

halve : (u s t : ℕ) → 2 * u ≤ 2 * s + t → t ≤ 1 → u ≤ s
halve u s t h k = omega arith

pub one_part : (z : ℤ) → (P z ≡ 0) ⊎ (N z ≡ 0)
one_part (pos n) = inr refl
one_part (negsuc n) = inl refl

none : (a c : ℕ) → 0 < c → a * c ≤ 0 → a ≡ 0
none zero c C h = refl
none (suc a) c C h = absurd (lt_irrefl 0 (lt_of_lt_of_le (mul-pos (zero-lt-suc a) C) h))

-- `omega` does not read a number as long as 2 ^ 1074: so l is any number here
drop_n : (u n a c l : ℕ) → u * c + 0 * l ≤ a * l + n * c → n ≡ 0 → u * c ≤ a * l
drop_n u n a c l h z = omega (arith, zero-mul l, ap (λ (k : ℕ). k * c) z, zero-mul c)

drop_n' : (u n a c l : ℕ) → a * l + n * c ≤ u * c + 0 * l → a * l ≤ u * c
drop_n' u n a c l h = omega (arith, zero-mul l)

drop_p : (u n a c l : ℕ) → a * l + n * c ≤ u * c + 0 * l → u ≡ 0 → n * c ≤ 0
drop_p u n a c l h z = omega (arith, zero-mul l, ap (λ (k : ℕ). k * c) z, zero-mul c)

-- stepped down it is negative or zero, or its square is at most n
pub root_below : (n : ℕ) → T (finite (next_down (rounded_root binary64 n)))
    → (P (units_of binary64 (next_down (rounded_root binary64 n))) ≡ 0)
    ⊎ (P (units_of binary64 (next_down (rounded_root binary64 n)))
    * P (units_of binary64 (next_down (rounded_root binary64 n))) ≤ n)
root_below n h =
    let l = 2 ^ low binary64 in
    let u = units_of binary64 (next_down (rounded_root binary64 n)) in
    let s = isqrt n in
    let t = sticky s n in
    let r = isqrt_is n in
    let C : 0 < 2 * l = mul-pos (zero-lt-suc 1) (pow_pos (low binary64)) in
    let b =
    below_all (rounded_root binary64 n) (2 * s + t) 0 (2 * l) (near_fits binary64 n) h C (le_of_eq (near_rank n)) in
    elim (one_part u) [
      | inl z ↦ inl z
      | inr z ↦
          let c : P u * (2 * l) ≤ (2 * s + t) * l = drop_n (P u) (N u) (2 * s + t) (2 * l) l b z in
          let d : P u ≤ s = halve (P u) s t (cut (P u) (2 * s + t) l (pow_pos (low binary64)) c) (sticky_le s n) in
          inr (le_trans (mul-le-mul d d) r.0)
    ]

high_part : (n s t u : ℕ) → n < (s + 1) * (s + 1) → ((t ≡ 1) × (s * s < n)) ⊎ ((t ≡ 0) × (n ≤ s * s))
    → 2 * s + t ≤ 2 * u → n ≤ u * u
high_part n s t u r (inl k) h = let d : s + 1 ≤ u = omega (arith, k.0) in le_trans (le_of_lt r) (mul-le-mul d d)
high_part n s t u r (inr k) h = let d : s ≤ u = omega (arith, k.0) in le_trans k.1 (mul-le-mul d d)

-- stepped up it is not negative, and its square is at least n
pub root_over : (n : ℕ) → T (finite (next_up (rounded_root binary64 n)))
    → (N (units_of binary64 (next_up (rounded_root binary64 n))) ≡ 0) × (n
    ≤ P (units_of binary64 (next_up (rounded_root binary64 n))) * P
    (units_of binary64 (next_up (rounded_root binary64 n))))
root_over n h =
    let l = 2 ^ low binary64 in
    let u = units_of binary64 (next_up (rounded_root binary64 n)) in
    let s = isqrt n in
    let t = sticky s n in
    let r = isqrt_is n in
    let C : 0 < 2 * l = mul-pos (zero-lt-suc 1) (pow_pos (low binary64)) in
    let b = above_all (rounded_root binary64 n) (2 * s + t) 0 (2 * l) (near_fits binary64 n) h C
    (le_of_eq (sym (near_rank n))) in
    let z : N u ≡ 0 =
    elim (one_part u) [ inl k ↦ none (N u) (2 * l) C (drop_p (P u) (N u) (2 * s + t) (2 * l) l b k) | inr k ↦ k ] in
    let c : (2 * s + t) * l ≤ P u * (2 * l) = drop_n' (P u) (N u) (2 * s + t) (2 * l) l b in
    (z, high_part n s t (P u) r.1 (sticky_says s n) (cut' (P u) (2 * s + t) l (pow_pos (low binary64)) c))

-- ---- the ends
pub zero_rank : (s : Bool) (e : ℤ) → T (fits binary64 (fin s zero e)) → rank binary64 (fin s zero e) ≡ inf_bits binary64
unfolding rank
zero_rank false e t = omega (arith, zero_bits binary64 e t)
zero_rank true e t = omega (arith, zero_bits binary64 e (positive_fits zero e t))

zero_down : (s : Bool) (e : ℤ) → T (fits binary64 (fin s zero e)) → T (finite (next_down (fin s zero e)))
    → P (units_of binary64 (next_down (fin s zero e))) ≡ 0
zero_down s e t h =
    let x = fin s zero e in
    let a = down_rank x t h in
    let b = zero_rank s e t in
    units-P binary64 (next_down x) (down_fits x) h ∙ ap (magnitude binary64) (omega arith) ∙ magnitude_zero binary64

zero_up : (s : Bool) (e : ℤ) → T (fits binary64 (fin s zero e)) → T (finite (next_up (fin s zero e)))
    → N (units_of binary64 (next_up (fin s zero e))) ≡ 0
zero_up s e t h =
    let x = fin s zero e in
    let a = up_rank x t h in
    let b = zero_rank s e t in
    units-N binary64 (next_up x) (up_fits x) h ∙ ap (magnitude binary64) (omega arith) ∙ magnitude_zero binary64

pub zero-units-N : (s : Bool) (e : ℤ) → T (fits binary64 (fin s zero e)) → N (units_of binary64 (fin s zero e)) ≡ 0
zero-units-N s e t = let b = zero_rank s e t in
    units-N binary64 (fin s zero e) t tt ∙ ap (magnitude binary64) (omega arith) ∙ magnitude_zero binary64

pub zero_units : (s : Bool) (e : ℤ) → T (fits binary64 (fin s zero e)) → P (units_of binary64 (fin s zero e)) ≡ 0
zero_units s e t = let b = zero_rank s e t in
    units-P binary64 (fin s zero e) t tt ∙ ap (magnitude binary64) (omega arith) ∙ magnitude_zero binary64

abbrev pub Low : Float → Float → Type 0
Low x y = (P (units_of binary64 (next_down (nearest_root y))) ≡ 0)
    ⊎ ((P (units_of binary64 (next_down (nearest_root y))) * P (units_of binary64 (next_down (nearest_root y)))
    ≤ P (units_of binary64 x) * 2 ^ low binary64) × (N (units_of binary64 x) ≡ 0))

pub zero_fits : T (fits binary64 (fin false zero (pos 0)))
unfolding fits
zero_fits = tt

pub own_low : (x : Float) → T (fits binary64 x) → T (finite x) → T (finite (next_down (nearest_root x))) → Low x x
unfolding nearest_root units_of
own_low (fin s zero e) t h g = inl (zero_down s e t g)
own_low (fin true (suc m) e) t h g = absurd (unfold neg in unfold next_up in g)
own_low (fin false (suc m) e) t h g = elim (root_below (suc m * up e * 2 ^ low binary64 / down e * 2 ^ low binary64)
    g) [ inl k ↦ inl k | inr k ↦ inr (k, refl) ]
own_low lib.Ieee.nan t h g = elim h [ ]
own_low (lib.Ieee.inf _) t h g = elim h [ ]

pub low_end : (x : Float) → T (fits binary64 x) → T (finite x) → T (finite (next_down (nearest_root (clamped x))))
    → Low x (clamped x)
unfolding clamped nearest_root
low_end x t h = go (lt x (fin false zero (pos 0)))
  where
    go : (b : Bool) → T (finite (next_down (nearest_root (cond b (fin false zero (pos 0)) x))))
        → Low x (cond b (fin false zero (pos 0)) x)
    go true g = inl (zero_down false (pos 0) zero_fits g)
    go false g = own_low x t h g

pub high_end : (x : Float) → T (fits binary64 x) → T (finite x) → T (finite (next_up (nearest_root x)))
    → (N (units_of binary64 (next_up (nearest_root x))) ≡ 0) × (P (units_of binary64 x) * 2 ^ low binary64
    ≤ P (units_of binary64 (next_up (nearest_root x))) * P (units_of binary64 (next_up (nearest_root x))))
unfolding nearest_root units_of
high_end (fin s zero e) t h g = (
  zero_up s e t g,
  le_trans (le_of_eq (ap (λ (z : ℕ). z * 2 ^ low binary64) (zero_units s e t) ∙ zero-mul (2 ^ low binary64))) zero-le,
)
high_end (fin true (suc m) e) t h g = absurd (unfold next_up in g)
high_end (fin false (suc m) e) t h g = root_over (suc m * up e * 2 ^ low binary64 / down e * 2 ^ low binary64) g
high_end lib.Ieee.nan t h g = elim h [ ]
high_end (lib.Ieee.inf _) t h g = elim h [ ]

-- ---- between the ends, with l and k any numbers
pub square_low : (u n p l k : ℕ) → u * u ≤ n * l → n * k ≤ p * l → u * u * k ≤ p * (l * l)
square_low u n p l k h g = le_trans (mul-le-mul_right k h)
    (le_trans (le_of_eq (mul_right_comm n l k)) (le_trans (mul-le-mul_right l g) (le_of_eq (mul_assoc p l l))))

pub square_high : (u n p l k : ℕ) → n * l ≤ u * u → p * l ≤ n * k → p * (l * l) ≤ u * u * k
square_high u n p l k h g = le_trans (le_of_eq (sym (mul_assoc p l l)))
    (le_trans (mul-le-mul_right l g) (le_trans (le_of_eq (mul_right_comm n k l)) (mul-le-mul_right k h)))

pub clean : (a b l n k : ℕ) → a + 0 * l ≤ b + n * k → n ≡ 0 → a ≤ b
clean a b l n k h z = omega (arith, zero-mul l, ap (λ (t : ℕ). t * k) z, zero-mul k)

pub clean' : (a b l n k : ℕ) → a + n * k ≤ b + 0 * l → a ≤ b
clean' a b l n k h = omega (arith, zero-mul l)

pub neg_part : (a : ℤ) → P a ≡ 0 → T (le_z a (pos 0))
neg_part a z = le_of_parts a (pos 0) (omega arith)

pos_part : (a : ℤ) → N a ≡ 0 → T (le_z (pos 0) a)
pos_part a z = le_of_parts (pos 0) a (omega arith)

sq_le : (a : ℤ) (m k : ℕ) → N a ≡ 0 → P a * P a * k ≤ m → T (le_z ((a *ℤ a) *ℤ pos k) (pos m))
sq_le (pos a) m k z h = le→leb (a * a * k) m h
sq_le (negsuc a) m k z h = absurd (omega arith)

sq_ge : (a : ℤ) (m k : ℕ) → N a ≡ 0 → m ≤ P a * P a * k → T (le_z (pos m) ((a *ℤ a) *ℤ pos k))
sq_ge (pos a) m k z h = le→leb m (a * a * k) h
sq_ge (negsuc a) m k z h = absurd (omega arith)

-- x is at most s / c: the root of x, stepped down, is at most 0 or its square at most s / c
pub under_root : (x : Float) (s c : ℕ)
    → T (fits binary64 x) → T (finite x) → T (finite (next_down (nearest_root (clamped x))))
    → T (le_z (units_of binary64 x *ℤ pos c) (pos s *ℤ pos (2 ^ low binary64)))
    → T (le_z (units_of binary64 (next_down (nearest_root (clamped x)))) (pos 0)) ⊎ T (le_z
    ((units_of binary64 (next_down (nearest_root (clamped x))) *ℤ units_of binary64
    (next_down (nearest_root (clamped x))))
    *ℤ pos c) (pos (s * (2 ^ low binary64 * 2 ^ low binary64))))
under_root x s c t f h g =
    let l = 2 ^ low binary64 in
    let u = units_of binary64 x in
    let r = units_of binary64 (next_down (nearest_root (clamped x))) in
    elim (one_part r) [
      | inl z ↦ inl (neg_part r z)
      | inr z ↦
          elim (low_end x t f h) [
            | inl y ↦ inl (neg_part r y)
            | inr y ↦ inr (sq_le r (s * (l * l)) c z (square_low (P r) (P u) s l c y.0
                (clean (P u * c) (s * l) l (N u) c (scaled_le u (pos s) c l g) y.1)))
          ]
    ]

-- x is at least s / c: the root of x, stepped up, is not below 0 and its square at least s / c
pub over_root : (x : Float) (s c : ℕ) → T (fits binary64 x) → T (finite x) → T (finite (next_up (nearest_root x)))
    → T (le_z (pos s *ℤ pos (2 ^ low binary64)) (units_of binary64 x *ℤ pos c))
    → T (le_z (pos 0) (units_of binary64 (next_up (nearest_root x))))
    × T (le_z (pos (s * (2 ^ low binary64 * 2 ^ low binary64)))
    ((units_of binary64 (next_up (nearest_root x)) *ℤ units_of binary64 (next_up (nearest_root x))) *ℤ pos c))
over_root x s c t f h g =
    let l = 2 ^ low binary64 in
    let u = units_of binary64 x in
    let r = units_of binary64 (next_up (nearest_root x)) in
    let w = high_end x t f h in (
      pos_part r w.0,
      sq_ge r (s * (l * l)) c w.0
          (square_high (P r) (P u) s l c w.1 (clean' (s * l) (P u * c) l (N u) c (scaled_le (pos s) u l c g))),
    )

pub sqrt_holds : (x : Scalar) → Fits x
    → Finite x → Finite (outward (nearest_root (clamped x.lo)) (nearest_root x.hi)) → (p k : ℕ) → Holds x (pos p) k
    → HoldsRoot (outward (nearest_root (clamped x.lo)) (nearest_root x.hi)) p k
sqrt_holds x t f g p k h =
    let w = over_root x.hi p (2 ^ k) t.1 f.hi_finite g.hi_finite h.to_hi in
    record {
      from_lo = under_root x.lo p (2 ^ k) t.0 f.lo_finite g.lo_finite h.from_lo;
      not_below = w.0;
      to_hi = w.1;
    }
