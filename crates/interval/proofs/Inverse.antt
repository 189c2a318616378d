-- 1 / y is rounded once and stepped outward: so the inverse of a positive end is past the reciprocal of the end.
use Rattle.std.proofs.Common.{◌≡◌, ℕ, zero, suc, ◌+◌, ◌*◌, ◌/◌, ◌^◌, ◌<◌, ◌≤◌, Bool, true, false, not, T, eqb, ℤ, pos}
use Rattle.std.proofs.Common.{◌*ℤ◌, sym, refl, ap, ◌∙◌, subst, inl, inr, zero-le, le_trans, le_of_eq, le_refl}
use Rattle.std.proofs.Common.{lt_of_lt_of_le, lt_irrefl, mul-le-mul_right, zero-lt-suc, mul_assoc, mul_comm}
use Rattle.std.proofs.Common.{eq-zero-or-pos, mul-le-mul_left, mul-pos, one-mul, zero-mul, mul-one, mul_right_comm}
use Rattle.std.proofs.Common.{le_of_mul-le-mul_right, arith, pow_pos}
use lib.Dec.{eqb-suc-zero}
use lib.Signed.{le_z}
use lib.Ieee.{Float, fin, binary64, low, up, down, round, div, fits, to_bits}
use lib.Ieee.Bits.{cond_no}
use lib.Ieee.Fits.{up_pos, div-fits}
use lib.Ieee.Scale.{finite}
use Rattle.interval.specs.declared.Scalar.{Scalar}
use Rattle.interval.specs.Enclosure.{units_of, Fits}
use Rattle.interval.specs.Pattern.{magnitude}
use Rattle.interval.specs.Scalar.{one64, inverse}
use Rattle.interval.specs.Step.{next_up, next_down}
use Rattle.interval.proofs.Integers.{P, N, P-neg, N-neg}
use Rattle.interval.proofs.Patterns.{bits_val}
use Rattle.interval.proofs.Rank.{rank, count}
use Rattle.interval.proofs.Enclosure.Add.{pp, nn, plain_fits, Rounds, rounds_above, rounds_below, scaled_le}
use Rattle.interval.proofs.Enclosure.Add.{le_scaled}
use Rattle.interval.proofs.Product.{signed_rank}
use Rattle.interval.proofs.Outward.{up_fits, down_fits}
use Rattle.interval.proofs.Enclosure.Sqrt.{one_part, zero_units, zero-units-N}

-- ---- 1 / y is rounded once
size_of : Float → ℕ
size_of y = P (units_of binary64 y) + N (units_of binary64 y)

over_it : (t : Bool) (a l u c w : ℕ) → a * l * u ≡ w * c → (pp t a * l * u ≡ pp t w * c) × (nn t a * l * u ≡ nn t w * c)
over_it false a l u c w h = (h, ap (λ (z : ℕ). z * u) (zero-mul l) ∙ zero-mul u ∙ sym (zero-mul c))
over_it true a l u c w h = (ap (λ (z : ℕ). z * u) (zero-mul l) ∙ zero-mul u ∙ sym (zero-mul c), h)

cross : (d l u m : ℕ) → m * l ≡ u * d → 1 * d * l * u ≡ l * l * (m * 1)
cross d l u m h =
    ap (λ (z : ℕ). z * l * u) (one-mul d) ∙ mul_right_comm d l u ∙ ap (λ (z : ℕ). z * l) (mul_comm d u ∙ sym h)
    ∙ mul_assoc m l l ∙ mul_comm m (l * l) ∙ ap (λ (z : ℕ). l * l * z) (sym (mul-one m))

pub one_over : (t : Bool) (n : ℕ) (d : ℤ)
    → div binary64 one64 (fin t (suc n) d) ≡ round binary64 t (1 * down d) (suc n * up d * 1)
unfolding div
one_over false n d = cond_no (eqb (suc n) 0) _ _ (subst (λ (b : Bool). T (not b)) (sym (eqb-suc-zero n)) tt)
one_over true n d = cond_no (eqb (suc n) 0) _ _ (subst (λ (b : Bool). T (not b)) (sym (eqb-suc-zero n)) tt)

pub div_rounds : (t : Bool) (n : ℕ) (d : ℤ) → T (fits binary64 (fin t (suc n) d))
    → Rounds (div binary64 one64 (fin t (suc n) d)) (pp t (2 ^ low binary64 * 2 ^ low binary64))
    (nn t (2 ^ low binary64 * 2 ^ low binary64)) (magnitude binary64 (to_bits binary64 (fin false (suc n) d)))
div_rounds t n d f =
    let l = 2 ^ low binary64 in
    let u = magnitude binary64 (to_bits binary64 (fin false (suc n) d)) in
    let a = 1 * down d in
    let c = suc n * up d * 1 in
    let C : 0 < c = subst (λ (z : ℕ). 0 < z) (sym (mul-one (suc n * up d))) (mul-pos (zero-lt-suc n) (up_pos d)) in
    let e = over_it t a l u c (l * l)
    (cross (down d) l u (suc n * up d) (bits_val binary64 (suc n) d (plain_fits t (suc n) d f)).1) in
    record {
      num_p = pp t a;
      num_q = nn t a;
      den = c;
      den_pos = C;
      at_rank = ap (rank binary64) (one_over t n d) ∙ signed_rank binary64 t a c C;
      is_p = e.0;
      is_q = e.1;
      is_float = div-fits binary64 one64 (fin t (suc n) d);
    }

-- ---- whole numbers
pub inv-A : (a u q k l : ℕ) → 0 < l → a * u ≤ l * l → q * l ≤ u * k → a * q ≤ k * l
inv-A a u q k l L h g =
    le_of_mul-le-mul_right
    (le_trans (le_of_eq (mul_assoc a q l)) (le_trans (mul-le-mul_left a g) (le_trans (le_of_eq (sym (mul_assoc a u k)))
    (le_trans (mul-le-mul_right k h) (le_of_eq (mul_comm (l * l) k ∙ sym (mul_assoc k l l))))))) L

pub inv-B : (a u q k l : ℕ) → 0 < l → l * l ≤ a * u → u * k ≤ q * l → k * l ≤ a * q
inv-B a u q k l L h g =
    le_of_mul-le-mul_right
    (le_trans (le_of_eq (mul_assoc k l l ∙ mul_comm k (l * l))) (le_trans (mul-le-mul_right k h)
    (le_trans (le_of_eq (mul_assoc a u k)) (le_trans (mul-le-mul_left a g) (le_of_eq (sym (mul_assoc a q l))))))) L

-- one part of r is 0, and the other is bounded
thin : (a b x c : ℕ) → a + 0 ≤ x + b * c → b ≡ 0 → a ≤ x
thin a b x c h z = omega (arith, ap (λ (t : ℕ). t * c) z, zero-mul c)

thin' : (x b c a : ℕ) → x + b * c ≤ a + 0 → x ≤ a
thin' x b c a h = omega arith

zero_both : (a c b : ℕ) → a ≡ 0 → a * c ≤ b
zero_both a c b z = le_trans (le_of_eq (ap (λ (t : ℕ). t * c) z ∙ zero-mul c)) zero-le

sum_le : (a b c d : ℕ) → a ≤ c → b ≡ 0 → a + b ≤ c + d
sum_le a b c d h z = omega arith

H1 : (r : ℤ) (u q k l : ℕ) → 0 < l → P r * u + 0 ≤ l * l + N r * u → q * l ≤ u * k
    → T (le_z (r *ℤ pos q) (pos k *ℤ pos l))
H1 r u q k l L h g = le_scaled r (pos k) q l (elim (one_part r) [
  | inl z ↦ sum_le (P r * q) (0 * l) (k * l) (N r * q) (zero_both (P r) q (k * l) z) (zero-mul l)
  | inr z ↦ sum_le (P r * q) (0 * l) (k * l) (N r * q)
      (inv-A (P r) u q k l L (thin (P r * u) (N r) (l * l) u h z) g) (zero-mul l)
])

not_zero : (l a u : ℕ) → 0 < l → l * l ≤ a * u → a ≡ 0 → ⊥
not_zero l a u L h z =
    lt_irrefl 0 (lt_of_lt_of_le (mul-pos L L) (le_trans h (le_of_eq (ap (λ (t : ℕ). t * u) z ∙ zero-mul u))))

H2 : (r : ℤ) (u q k l : ℕ) → 0 < l → l * l + N r * u ≤ P r * u + 0 → u * k ≤ q * l
    → T (le_z (pos k *ℤ pos l) (r *ℤ pos q))
H2 r u q k l L h g =
    let b : l * l ≤ P r * u = thin' (l * l) (N r) u (P r * u) h in
    le_scaled (pos k) r l q (elim (one_part r) [
      | inl z ↦ absurd (not_zero l (P r) u L b z)
      | inr z ↦ sum_le (k * l) (N r * q) (P r * q) (0 * l) (inv-B (P r) u q k l L b g)
          (ap (λ (t : ℕ). t * q) z ∙ zero-mul q)
    ])

-- ---- the inverse of an end
pub units_pos : (m : ℕ) (e : ℤ) → T (fits binary64 (fin false m e))
    → P (units_of binary64 (fin false m e)) ≡ magnitude binary64 (to_bits binary64 (fin false m e))
unfolding units_of
units_pos m e t = count binary64 m e t

pub units_neg : (m : ℕ) (e : ℤ) → T (fits binary64 (fin true m e))
    → N (units_of binary64 (fin true m e)) ≡ magnitude binary64 (to_bits binary64 (fin false m e))
unfolding units_of
units_neg m e t = N-neg (m * up e * 2 ^ low binary64 / down e) ∙ count binary64 m e (plain_fits true m e t)

pub sides_pos : (m : ℕ) (e : ℤ) → N (units_of binary64 (fin false m e)) ≡ 0
unfolding units_of
sides_pos m e = refl

pub sides_neg : (m : ℕ) (e : ℤ) → P (units_of binary64 (fin true m e)) ≡ 0
unfolding units_of
sides_neg m e = P-neg (m * up e * 2 ^ low binary64 / down e)

abbrev L64 : ℕ
L64 = 2 ^ low binary64

down_of : (t : Bool) (m : ℕ) (e : ℤ) → T (fits binary64 (fin t (suc m) e))
    → T (finite (next_down (div binary64 one64 (fin t (suc m) e))))
    → P (units_of binary64 (next_down (div binary64 one64 (fin t (suc m) e)))) * magnitude binary64
    (to_bits binary64 (fin false (suc m) e)) + nn t (L64 * L64) ≤ pp t (L64 * L64) + N (units_of binary64
    (next_down (div binary64 one64 (fin t (suc m) e)))) * magnitude binary64 (to_bits binary64 (fin false (suc m) e))
down_of t m e f h = let v = div binary64 one64 (fin t (suc m) e) in
    let r = div_rounds t m e f in rounds_below v v _ _ _ r r.is_float (le_refl (rank binary64 v)) h

up_of : (t : Bool) (m : ℕ) (e : ℤ) → T (fits binary64 (fin t (suc m) e))
    → T (finite (next_up (div binary64 one64 (fin t (suc m) e))))
    → pp t (L64 * L64) + N (units_of binary64 (next_up (div binary64 one64 (fin t (suc m) e)))) * magnitude binary64
    (to_bits binary64 (fin false (suc m) e)) ≤ P (units_of binary64 (next_up (div binary64 one64 (fin t (suc m) e))))
    * magnitude binary64 (to_bits binary64 (fin false (suc m) e)) + nn t (L64 * L64)
up_of t m e f h = let v = div binary64 one64 (fin t (suc m) e) in
    let r = div_rounds t m e f in rounds_above v v _ _ _ r r.is_float (le_refl (rank binary64 v)) h

above_pos : (u : ℤ) (w q k l : ℕ) → P u ≡ w → T (le_z (pos q *ℤ pos l) (u *ℤ pos k)) → q * l ≤ w * k
above_pos u w q k l p g = omega (arith, scaled_le (pos q) u l k g, ap (λ (t : ℕ). t * k) p, zero-mul l)

below_pos : (u : ℤ) (w q k l : ℕ) → P u ≡ w → N u ≡ 0 → T (le_z (u *ℤ pos k) (pos q *ℤ pos l)) → w * k ≤ q * l
below_pos u w q k l p n g =
    omega (arith, scaled_le u (pos q) k l g, ap (λ (t : ℕ). t * k) p, ap (λ (t : ℕ). t * k) n, zero-mul l, zero-mul k)

pub lo_pos : (m : ℕ) (e : ℤ) → T (fits binary64 (fin false (suc m) e))
    → T (finite (next_down (div binary64 one64 (fin false (suc m) e)))) → (q k : ℕ)
    → T (le_z (pos q *ℤ pos L64) (units_of binary64 (fin false (suc m) e) *ℤ pos k))
    → T (le_z (units_of binary64 (next_down (div binary64 one64 (fin false (suc m) e))) *ℤ pos q) (pos k *ℤ pos L64))
lo_pos m e f h q k g =
    H1 (units_of binary64 (next_down (div binary64 one64 (fin false (suc m) e)))) (magnitude binary64
    (to_bits binary64 (fin false (suc m) e))) q k L64 (pow_pos (low binary64)) (down_of false m e f h)
    (above_pos (units_of binary64 (fin false (suc m) e))
    (magnitude binary64 (to_bits binary64 (fin false (suc m) e))) q k L64 (units_pos (suc m) e f) g)

pub hi_pos : (m : ℕ) (e : ℤ) → T (fits binary64 (fin false (suc m) e))
    → T (finite (next_up (div binary64 one64 (fin false (suc m) e)))) → (q k : ℕ)
    → T (le_z (units_of binary64 (fin false (suc m) e) *ℤ pos k) (pos q *ℤ pos L64))
    → T (le_z (pos k *ℤ pos L64) (units_of binary64 (next_up (div binary64 one64 (fin false (suc m) e))) *ℤ pos q))
hi_pos m e f h q k g =
    H2 (units_of binary64 (next_up (div binary64 one64 (fin false (suc m) e))))
    (magnitude binary64 (to_bits binary64 (fin false (suc m) e))) q k L64 (pow_pos (low binary64)) (up_of false m e f h)
    (below_pos (units_of binary64 (fin false (suc m) e))
    (magnitude binary64 (to_bits binary64 (fin false (suc m) e))) q k
    L64 (units_pos (suc m) e f) (sides_pos (suc m) e) g)

-- ---- the signs of the ends
abbrev pub Above : Float → Type 0
Above x = (m : ℕ) × (e : ℤ) × (x ≡ fin false (suc m) e)

abbrev pub Below : Float → Type 0
Below x = (m : ℕ) × (e : ℤ) × (x ≡ fin true (suc m) e)

pub some_above : (x : Float) → T (fits binary64 x) → T (finite x) → 0 < P (units_of binary64 x) → Above x
some_above (fin s zero e) t h k = absurd (lt_irrefl 0 (subst (λ (z : ℕ). 0 < z) (zero_units s e t) k))
some_above (fin false (suc m) e) t h k = (m, e, refl)
some_above (fin true (suc m) e) t h k = absurd (lt_irrefl 0 (subst (λ (z : ℕ). 0 < z) (sides_neg (suc m) e) k))
some_above lib.Ieee.nan t h k = elim h [ ]
some_above (lib.Ieee.inf _) t h k = elim h [ ]

pub some_below : (x : Float) → T (fits binary64 x) → T (finite x) → 0 < N (units_of binary64 x) → Below x
some_below (fin s zero e) t h k = absurd (lt_irrefl 0 (subst (λ (z : ℕ). 0 < z) (zero-units-N s e t) k))
some_below (fin true (suc m) e) t h k = (m, e, refl)
some_below (fin false (suc m) e) t h k = absurd (lt_irrefl 0 (subst (λ (z : ℕ). 0 < z) (sides_pos (suc m) e) k))
some_below lib.Ieee.nan t h k = elim h [ ]
some_below (lib.Ieee.inf _) t h k = elim h [ ]

-- ---- the inverse
pub lo_pos' : (x : Float) → Above x → T (fits binary64 x) → T (finite (next_down (div binary64 one64 x))) → (q k : ℕ)
    → T (le_z (pos q *ℤ pos L64) (units_of binary64 x *ℤ pos k))
    → T (le_z (units_of binary64 (next_down (div binary64 one64 x)) *ℤ pos q) (pos k *ℤ pos L64))
lo_pos' x w = subst (λ (x : Float). T (fits binary64 x) → T (finite (next_down (div binary64 one64 x))) → (q k : ℕ)
    → T (le_z (pos q *ℤ pos L64) (units_of binary64 x *ℤ pos k))
    → T (le_z (units_of binary64 (next_down (div binary64 one64 x)) *ℤ pos q) (pos k *ℤ pos L64))) (sym w.2)
    (lo_pos w.0 w.1)

pub hi_pos' : (x : Float) → Above x → T (fits binary64 x) → T (finite (next_up (div binary64 one64 x))) → (q k : ℕ)
    → T (le_z (units_of binary64 x *ℤ pos k) (pos q *ℤ pos L64))
    → T (le_z (pos k *ℤ pos L64) (units_of binary64 (next_up (div binary64 one64 x)) *ℤ pos q))
hi_pos' x w = subst (λ (x : Float). T (fits binary64 x) → T (finite (next_up (div binary64 one64 x))) → (q k : ℕ)
    → T (le_z (units_of binary64 x *ℤ pos k) (pos q *ℤ pos L64))
    → T (le_z (pos k *ℤ pos L64) (units_of binary64 (next_up (div binary64 one64 x)) *ℤ pos q))) (sym w.2)
    (hi_pos w.0 w.1)

-- an end above a positive choice is positive
pub reach_pos : (u : ℤ) (n k l : ℕ) → 0 < l → T (le_z (pos (suc n) *ℤ pos l) (u *ℤ pos k)) → 0 < P u
reach_pos u n k l L h = elim (eq-zero-or-pos (P u)) [
  | inl z ↦ absurd (lt_irrefl 0
      (lt_of_lt_of_le (mul-pos (zero-lt-suc n) L) (le_trans (above_pos u 0 (suc n) k l z h) (le_of_eq (zero-mul k)))))
  | inr p ↦ p
]

pub inverse_fits : (y : Scalar) → Fits (inverse y)
inverse_fits y = (down_fits (div binary64 one64 y.hi), up_fits (div binary64 one64 y.lo))
