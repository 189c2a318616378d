-- An interval by two upper bounds, -lo and hi. Both are stepped up, so the two ends are worked out alike: turning the
-- signs turns a product and the least of four exactly, and a sum but for the sign of a zero, from which the step up is
-- the same. The step is one pattern, less where the sign is set; it starts from no -0, and infinity stays.
use Rattle.std.proofs.Common.{◌≡◌, ℕ, zero, suc, ◌+◌, ◌-◌, ◌*◌, ◌/◌, ◌^◌, ◌<◌, ◌≤◌, Bool, true, false, cond, not, ◌&&◌}
use Rattle.std.proofs.Common.{T, ltb, ℤ, pos, sym, refl, ap, ◌∙◌, subst, inl, inr, le_of_eq, zero-lt-suc, add_comm}
use Rattle.std.proofs.Common.{le_antisymm, mul-pos, zero-mul, mul-one, mul_right_comm, arith, lit<, lit≤, ltb→lt}
use Rattle.std.proofs.Common.{nltb→le}
use native.Mathlib.Nat.{eq_of_mul-eq-mul_right}
use mathlib.Core.Bool.{beq}
use lib.Ieee.{Float, nan, inf, fin, binary64, low, up, down, round, sum, add, sub, mul, neg, below, lt, le, eq, fits}
use lib.Ieee.{is_nan, to_bits, of_bits, nan_bits}
use lib.Ieee.Bits.{is_true, of_bits-to_bits}
use lib.Ieee.Fits.{down_pos, up_pos, round-fits, inf-fits, add-fits, mul-fits}
use lib.Ieee.Scale.{finite}
use Rattle.interval.specs.declared.Scalar.{Scalar}
use Rattle.interval.specs.Float.{lesser, greater, least, greatest}
use Rattle.interval.specs.Pattern.{inf_bits, magnitude}
use Rattle.interval.specs.Scalar.{zero64, add_of, sub_of, mul_of}
use Rattle.interval.specs.Step.{next_up}
use Rattle.interval.proofs.Patterns.{bits_under, bits_val, no_nan}
use Rattle.interval.proofs.Rounding.{at, at_ge, at_most}
use Rattle.interval.proofs.Rank.{rank, rank_in}
use Rattle.interval.proofs.Tests.{step_out}
use Rattle.interval.proofs.NextUp.{Down, down_side}
use Rattle.interval.proofs.Outward.{positive_fits, zero_bits}
use Rattle.interval.proofs.MinMax.{least_is, greatest_is}
use Rattle.interval.proofs.Order.{Number, greatest_any, rank_units}
use Rattle.interval.proofs.OrderUnits.{units_le}
use Rattle.interval.proofs.Product.{round_number}
use Rattle.interval.proofs.Infinite.{neg_inf, up_any}
pub use Rattle.interval.proofs.Infinite.{neg_neg}
use Rattle.interval.proofs.OneSided.Mul.{times_comm, times_neg, round_not}

-- ---- the order with the signs turned
below_turned : (s : Bool) (a : ℕ) (t : Bool) (b : ℕ) → below (not s) a (not t) b ≡ below t b s a
below_turned false a false b = refl
below_turned false a true b = ap (ltb 0) (add_comm a b)
below_turned true a false b = refl
below_turned true a true b = refl

less_turned : (a b : Float) → lt (neg a) (neg b) ≡ lt b a
unfolding lt neg
less_turned nan nan = refl
less_turned nan (inf t) = refl
less_turned nan (fin t n d) = refl
less_turned (inf s) nan = refl
less_turned (inf true) (inf true) = refl
less_turned (inf true) (inf false) = refl
less_turned (inf false) (inf true) = refl
less_turned (inf false) (inf false) = refl
less_turned (inf s) (fin t n d) = refl
less_turned (fin s m e) nan = refl
less_turned (fin s m e) (inf true) = refl
less_turned (fin s m e) (inf false) = refl
less_turned (fin s m e) (fin t n d) = below_turned s (m * up e * down d) t (n * up d * down e)

greater_turned : (a b : Float) → greater (neg a) (neg b) ≡ neg (lesser a b)
unfolding greater lesser
greater_turned a b = ap (λ (t : Bool). cond t (neg b) (neg a)) (less_turned a b) ∙ go (lt b a)
  where
    go : (t : Bool) → cond t (neg b) (neg a) ≡ neg (cond t b a)
    go true = refl
    go false = refl

pub greatest_turned : (p q r s : Float) → greatest (neg p) (neg q) (neg r) (neg s) ≡ neg (least p q r s)
greatest_turned p q r s =
    let a = lesser (inf false) p in
    let b = lesser a q in
    greatest_is (neg p) (neg q) (neg r) (neg s)
    ∙ ap (λ (z : Float). greater (greater (greater z (neg q)) (neg r)) (neg s))
    (ap (λ (z : Float). greater z (neg p)) (sym neg_inf) ∙ greater_turned (inf false) p)
    ∙ ap (λ (z : Float). greater (greater z (neg r)) (neg s)) (greater_turned a q)
    ∙ ap (λ (z : Float). greater z (neg s)) (greater_turned b r)
    ∙ greater_turned (lesser b r) s
    ∙ ap neg (sym (least_is p q r s))

-- ---- rounding what a float stands for gives it back
pub round_back : (m : ℕ) (e : ℤ) (a c : ℕ) → T (fits binary64 (fin false m e)) → 0 < c → a * down e ≡ m * up e * c
    → round binary64 false a c ≡ fin false m e
unfolding at
round_back m e a c t C h =
    let f = binary64 in
    let l = 2 ^ low f in
    let b = to_bits f (fin false m e) in
    let i = bits_under f m e t in
    let v : m * up e * l ≡ magnitude f b * down e = (bits_val f m e t).1 in
    let k : magnitude f b * c ≡ a * l = eq_of_mul-eq-mul_right (down e) (down_pos e) (magnitude f b * c) (a * l)
    (mul_right_comm (magnitude f b) c (down e) ∙ ap (λ (z : ℕ). z * c) (sym v) ∙ mul_right_comm (m * up e) l c
    ∙ ap (λ (z : ℕ). z * l) (sym h) ∙ mul_right_comm a (down e) l) in
    let same : to_bits f (round f false a c) ≡ b =
    le_antisymm (at_most f a c b C i (le_of_eq (sym k))) (at_ge f a c b C i (le_of_eq k)) in
    sym (of_bits-to_bits f (round f false a c) (round-fits f false a c)) ∙ ap (of_bits f) same
    ∙ of_bits-to_bits f (fin false m e) t

zero_fits : T (fits binary64 zero64)
unfolding fits
zero_fits = tt

pub round_none : (a c : ℕ) → 0 < c → a ≡ 0 → round binary64 false a c ≡ zero64
round_none a c C h = round_back 0 (pos 0) a c zero_fits C (mul-one a ∙ h ∙ sym (zero-mul c))

-- ---- a sum with the signs turned
from_none : (a c : ℕ) → 0 < c → a ≡ 0 → next_up (round binary64 false a c) ≡ next_up (neg (round binary64 false a c))
unfolding next_up neg
from_none a c C h = subst (λ (z : Float). next_up z ≡ next_up (neg z)) (sym (round_none a c C h)) refl

sum_turned : (s : Bool) (a : ℕ) (t : Bool) (b c : ℕ) → 0 < c
    → next_up (sum binary64 (not s) a (not t) b c) ≡ next_up (neg (sum binary64 s a t b c))
unfolding sum
sum_turned true a true b c C = ap next_up (round_not true (a + b) c)
sum_turned false a false b c C = ap next_up (round_not false (a + b) c)
sum_turned true a false b c C = go (ltb a b) (ltb b a) (nltb→le a b) (nltb→le b a)
  where
    go : (x y : Bool) → (T (not x) → b ≤ a) → (T (not y) → a ≤ b)
        → next_up (cond x (round binary64 true (b - a) c) (round binary64 (false && y) (a - b) c))
        ≡ next_up (neg (cond x (round binary64 false (b - a) c) (round binary64 (true && y) (a - b) c)))
    go true y p q = ap next_up (round_not false (b - a) c)
    go false true p q = ap next_up (round_not true (a - b) c)
    go false false p q = let h = q tt in from_none (a - b) c C (omega arith)
sum_turned false a true b c C = go (ltb a b) (ltb b a) (nltb→le a b) (nltb→le b a)
  where
    go : (x y : Bool) → (T (not x) → b ≤ a) → (T (not y) → a ≤ b)
        → next_up (cond x (round binary64 false (b - a) c) (round binary64 (true && y) (a - b) c))
        ≡ next_up (neg (cond x (round binary64 true (b - a) c) (round binary64 (false && y) (a - b) c)))
    go true y p q = ap next_up (round_not true (b - a) c)
    go false true p q = ap next_up (round_not false (a - b) c)
    go false false p q = let h = q tt in from_none (a - b) c C (omega arith)

pub add_turned : (a b : Float) → next_up (add binary64 (neg a) (neg b)) ≡ next_up (neg (add binary64 a b))
unfolding add neg
add_turned nan b = refl
add_turned (inf s) nan = refl
add_turned (inf true) (inf true) = refl
add_turned (inf true) (inf false) = refl
add_turned (inf false) (inf true) = refl
add_turned (inf false) (inf false) = refl
add_turned (inf s) (fin t n d) = refl
add_turned (fin s m e) nan = refl
add_turned (fin s m e) (inf t) = refl
add_turned (fin s m e) (fin t n d) =
    sum_turned s (m * up e * down d) t (n * up d * down e) (down e * down d) (mul-pos (down_pos e) (down_pos d))

-- ---- the two bounds of a sum, a difference and a product
pub add_below : (x y : Scalar) → neg (add_of x y).lo ≡ next_up (add binary64 (neg x.lo) (neg y.lo))
add_below x y = neg_neg (next_up (neg (add binary64 x.lo y.lo))) ∙ sym (add_turned x.lo y.lo)

pub sub_below : (x y : Scalar) → neg (sub_of x y).lo ≡ next_up (add binary64 (neg x.lo) y.hi)
unfolding sub
sub_below x y =
    neg_neg (next_up (neg (add binary64 x.lo (neg y.hi)))) ∙ sym (add_turned x.lo (neg y.hi))
    ∙ ap (λ (z : Float). next_up (add binary64 (neg x.lo) z)) (neg_neg y.hi)

pub sub_above : (x y : Scalar) → (sub_of x y).hi ≡ next_up (add binary64 x.hi (neg y.lo))
unfolding sub
sub_above x y = refl

pub mul_below : (x y : Scalar)
    → neg (mul_of x y).lo ≡ next_up (greatest (mul binary64 (neg x.lo) y.lo) (mul binary64 (neg x.lo) y.hi)
    (mul binary64 (neg x.hi) y.lo) (mul binary64 (neg x.hi) y.hi))
mul_below x y =
    rw (
      times_neg x.lo y.lo,
      times_neg x.lo y.hi,
      times_neg x.hi y.lo,
      times_neg x.hi y.hi,
      greatest_turned (mul binary64 x.lo y.lo) (mul binary64 x.lo y.hi) (mul binary64 x.hi y.lo)
          (mul binary64 x.hi y.hi),
    )
    (neg_neg (next_up (neg (least (mul binary64 x.lo y.lo) (mul binary64 x.lo y.hi)
    (mul binary64 x.hi y.lo) (mul binary64 x.hi y.hi)))))

-- the same by the other factor
pub mul_below_second : (x y : Scalar)
    → neg (mul_of x y).lo ≡ next_up (greatest (mul binary64 x.lo (neg y.lo)) (mul binary64 x.lo (neg y.hi))
    (mul binary64 x.hi (neg y.lo)) (mul binary64 x.hi (neg y.hi)))
mul_below_second x y =
    rw (turned x.lo y.lo, turned x.lo y.hi, turned x.hi y.lo, turned x.hi y.hi) (mul_below x y)
  where
    turned : (a b : Float) → mul binary64 a (neg b) ≡ mul binary64 (neg a) b
    turned a b = times_comm a (neg b) ∙ times_neg b a ∙ ap neg (times_comm b a) ∙ sym (times_neg a b)

-- ---- numbers above minus infinity
pub products_number : (a b c d : Float)
    → Number (greatest (mul binary64 a c) (mul binary64 a d) (mul binary64 b c) (mul binary64 b d))
products_number a b c d =
    (greatest_any (mul binary64 a c) (mul binary64 a d) (mul binary64 b c) (mul binary64 b d) (mul-fits binary64 a c)
    (mul-fits binary64 a d) (mul-fits binary64 b c) (mul-fits binary64 b d)).number

either : (x : Bool) (u v : Float) → T (not (is_nan u)) → T (not (is_nan v)) → T (not (is_nan (cond x u v)))
either true u v p q = p
either false u v p q = q

sum_no_nan : (s : Bool) (a : ℕ) (t : Bool) (b c : ℕ) → T (not (is_nan (sum binary64 s a t b c)))
unfolding sum
sum_no_nan s a t b c =
    either (beq s t) (round binary64 s (a + b) c) (cond (ltb a b) (round binary64 t (b - a) c)
    (round binary64 (s && ltb b a) (a - b) c)) (round_number binary64 s (a + b) c)
    (either (ltb a b) (round binary64 t (b - a) c) (round binary64 (s && ltb b a) (a - b) c)
    (round_number binary64 t (b - a) c) (round_number binary64 (s && ltb b a) (a - b) c))

sum_no_nan_above : (a b : Float) → lt (inf true) a ≡ true → lt (inf true) b ≡ true → T (not (is_nan (add binary64 a b)))
unfolding lt add sum is_nan
sum_no_nan_above nan b h k = absurd (subst T (sym h) tt)
sum_no_nan_above (inf true) b h k = absurd (subst T (sym h) tt)
sum_no_nan_above (inf false) nan h k = absurd (subst T (sym k) tt)
sum_no_nan_above (inf false) (inf true) h k = absurd (subst T (sym k) tt)
sum_no_nan_above (inf false) (inf false) h k = tt
sum_no_nan_above (inf false) (fin t n d) h k = tt
sum_no_nan_above (fin s m e) nan h k = absurd (subst T (sym k) tt)
sum_no_nan_above (fin s m e) (inf t) h k = tt
sum_no_nan_above (fin s m e) (fin t n d) h k = sum_no_nan s (m * up e * down d) t (n * up d * down e) (down e * down d)

pub sum_number : (a b : Float) → lt (inf true) a ≡ true → lt (inf true) b ≡ true → Number (add binary64 a b)
sum_number a b h k = (add-fits binary64 a b, sum_no_nan_above a b h k)

finite_above : (x : Float) → T (finite x) → lt (inf true) x ≡ true
unfolding lt
finite_above (fin s m e) h = refl
finite_above nan h = elim h [ ]
finite_above (inf _) h = elim h [ ]

pub up_above : (x : Float) → Number x → lt (inf true) (next_up x) ≡ true
unfolding lt
up_above x n = elim (up_any x n.0 n.1) [
  | inl h ↦ finite_above (next_up x) h
  | inr e ↦ subst (λ (z : Float). lt (inf true) z ≡ true) (sym e) refl
]

-- ---- x + 0 is x, but for -0
pub some : (m : ℕ) (e : ℤ) → 0 < suc m * up e
some m e = mul-pos (zero-lt-suc m) (up_pos e)

kept : (m : ℕ) (e : ℤ) (a c : ℕ) → T (fits binary64 (fin false m e)) → a ≡ m * up e → c ≡ down e
    → round binary64 false a c ≡ fin false m e
kept m e a c t h k = round_back m e a c t (subst (λ (z : ℕ). 0 < z) (sym k) (down_pos e))
    (ap (λ (z : ℕ). z * down e) h ∙ ap (λ (z : ℕ). m * up e * z) (sym k))

pub plus_zero : (s : Bool) (m : ℕ) (e : ℤ) → T (fits binary64 (fin s (suc m) e))
    → add binary64 (fin s (suc m) e) zero64 ≡ fin s (suc m) e
unfolding add sum neg
plus_zero false m e t = kept (suc m) e (suc m * up e * 1 + 0 * 1 * down e) (down e * 1) t
    (omega (arith, zero-mul (down e))) (mul-one (down e))
plus_zero true m e t = go (ltb A B) (ltb B A) (ltb→lt A B) (nltb→le B A)
  where
    A : ℕ
    A = suc m * up e * 1

    B : ℕ
    B = 0 * 1 * down e

    go : (x y : Bool) → (T x → suc m * up e * 1 < 0 * 1 * down e) → (T (not y) → suc m * up e * 1 ≤ 0 * 1 * down e)
        → cond x (round binary64 false (0 * 1 * down e - suc m * up e * 1) (down e * 1))
        (round binary64 (true && y) (suc m * up e * 1 - 0 * 1 * down e) (down e * 1)) ≡ fin true (suc m) e
    go true y p q = let h = p tt in absurd (omega (arith, zero-mul (down e)))
    go false false p q = let h = q tt in absurd (omega (arith, some m e, zero-mul (down e)))
    go false true p q =
        round_not false (suc m * up e * 1 - 0 * 1 * down e) (down e * 1)
        ∙ ap neg (kept (suc m) e (suc m * up e * 1 - 0 * 1 * down e) (down e * 1) (positive_fits (suc m) e t)
        (omega (arith, zero-mul (down e))) (mul-one (down e)))

pub zero_plus_zero : (s : Bool) (e : ℤ) → add binary64 (fin s zero e) zero64 ≡ zero64
unfolding add sum
zero_plus_zero s e = go s (ltb A B) (ltb B A) (ltb→lt A B) (ltb→lt B A)
  where
    A : ℕ
    A = 0 * up e * 1

    B : ℕ
    B = 0 * 1 * down e

    go : (s x y : Bool) → (T x → 0 * up e * 1 < 0 * 1 * down e) → (T y → 0 * 1 * down e < 0 * up e * 1)
        → cond (beq s false) (round binary64 s (0 * up e * 1 + 0 * 1 * down e) (down e * 1))
        (cond x (round binary64 false (0 * 1 * down e - 0 * up e * 1) (down e * 1))
        (round binary64 (s && y) (0 * up e * 1 - 0 * 1 * down e) (down e * 1))) ≡ zero64
    go false x y p q = round_none _ (down e * 1) (mul-pos (down_pos e) (zero-lt-suc 0))
        (omega (arith, zero-mul (up e), zero-mul (down e)))
    go true true y p q = let h = p tt in absurd (omega (arith, zero-mul (down e)))
    go true false true p q = let h = q tt in absurd (omega (arith, zero-mul (up e)))
    go true false false p q =
        round_none _ (down e * 1) (mul-pos (down_pos e) (zero-lt-suc 0)) (omega (arith, zero-mul (up e)))

pub plus_zero_number : (x : Float) → T (not (is_nan x)) → T (not (is_nan (add binary64 x zero64)))
unfolding add sum is_nan
plus_zero_number (inf s) h = tt
plus_zero_number (fin s m e) h = sum_no_nan s (m * up e * 1) false (0 * 1 * down e) (down e * 1)
plus_zero_number nan h = elim h [ ]

-- ---- the step up of what is not -0, by its pattern
-- adding 0 keeps x: it is not -0
abbrev pub Kept : Float → Type 0
Kept x = add binary64 x zero64 ≡ x

-- the greatest finite float
abbrev pub most64 : Float
most64 = fin false 9007199254740991 (pos 971)

most_is : T (finite most64) × T (fits binary64 most64) × (rank binary64 most64 ≡ 18437736874454810623)
unfolding rank to_bits fits
most_is = (tt, tt, refl)

finite_most : (x : Float) → T (fits binary64 x) → T (finite x) → le x most64 ≡ true
finite_most x t h =
    let under : rank binary64 x ≤ rank binary64 most64 = omega (arith, (rank_in binary64 x t h).1, most_is.2) in
    is_true (le x most64)
    (units_le x most64 t h most_is.1 most_is.0 (rank_units x most64 t h most_is.1 most_is.0 under))

-- the pattern b less twice its sign, and d more: d is 1, and 0, no step, of infinity
abbrev pub step_from : ℕ → ℕ → ℕ
step_from b d = b - 2 * (b / 9223372036854775808) + d

-- of x, by the pattern b and the step d
pub record Step (x : Float) (b d : ℕ) : Type 0 where
  pub some : 2 * (b / 9223372036854775808) ≤ b
  pub room : step_from b d < 18446744073709551616
  pub number : T (not (nan_bits binary64 (step_from b d)))
  pub next : of_bits binary64 (step_from b d) ≡ next_up x

out : (x : Float) (b : ℕ) → b < inf_bits binary64 → of_bits binary64 (b + 1) ≡ next_up x → Step x b 1
out x b h e =
    let same : step_from b 1 ≡ b + 1 = omega arith in
    record {
      some = omega arith;
      room = omega arith;
      number = no_nan binary64 _ (omega arith);
      next = ap (of_bits binary64) same ∙ e;
    }

back : (x : Float) → Down x → Step x (to_bits binary64 x) 1
back x d =
    let same : step_from (to_bits binary64 x) 1 ≡ to_bits binary64 x - 1 = omega (arith, d.signed, d.room) in
    record {
      some = omega (arith, d.signed, d.room);
      room = omega (arith, d.room);
      number = subst (λ (z : ℕ). T (not (nan_bits binary64 z))) (sym same) d.number;
      next = ap (of_bits binary64) same ∙ d.next;
    }

at_infinity : Step (inf false) (to_bits binary64 (inf false)) (cond (le (inf false) most64) 1 0)
unfolding to_bits of_bits nan_bits le lt eq next_up
at_infinity = record { some = lit≤ tt; room = lit< tt; number = tt; next = refl }

at_minus_infinity : Step (inf true) (to_bits binary64 (inf true)) (cond (le (inf true) most64) 1 0)
unfolding le lt eq
at_minus_infinity = back (inf true) (down_side (inf true) (inf-fits binary64 true) (inl refl))

from_zero : (e : ℤ) → T (fits binary64 (fin false zero e))
    → of_bits binary64 (to_bits binary64 (fin false zero e) + 1) ≡ next_up (fin false zero e)
unfolding next_up
from_zero e t = ap (λ (b : ℕ). of_bits binary64 (b + 1)) (zero_bits binary64 e t)

pub minus_zero_not_kept : (e : ℤ) → Kept (fin true zero e) → ⊥
minus_zero_not_kept e k = subst (λ (x : Float). T (plain x)) (sym (zero_plus_zero true e) ∙ k) tt
  where
    plain : Float → Bool
    plain nan = false
    plain (inf s) = false
    plain (fin s m e) = not s

pub step : (x : Float) → T (fits binary64 x) → T (not (is_nan x)) → Kept x
    → Step x (to_bits binary64 x) (cond (le x most64) 1 0)
unfolding is_nan
step (inf false) t h k = at_infinity
step (inf true) t h k = at_minus_infinity
step (fin true zero e) t h k = absurd (minus_zero_not_kept e k)
step (fin false zero e) t h k = rw (finite_most (fin false zero e) t tt)
    (out (fin false zero e) (to_bits binary64 (fin false zero e)) (bits_under binary64 0 e t) (from_zero e t))
step (fin false (suc m) e) t h k =
    let r = step_out (fin false (suc m) e) t (m, e, refl) in
    rw (finite_most (fin false (suc m) e) t tt)
    (out (fin false (suc m) e) (to_bits binary64 (fin false (suc m) e)) r.0 r.1)
step (fin true (suc m) e) t h k = rw (finite_most (fin true (suc m) e) t tt)
    (back (fin true (suc m) e) (down_side (fin true (suc m) e) t (inr (m, e, refl))))
step nan t h k = elim h [ ]
