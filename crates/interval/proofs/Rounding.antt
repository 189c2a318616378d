-- Rounding against the patterns, with no argument about half units: rounding is monotone and keeps what a pattern
-- stands for, so a / c lies on the right side of every pattern that is not the rounded value's own.
use Rattle.std.proofs.Common.{◌≡◌, ℕ, zero, suc, ◌+◌, ◌-◌, ◌*◌, ◌^◌, ◌<◌, ◌≤◌, Bool, true, false, cond, not, ◌&&◌, ◌||◌}
use Rattle.std.proofs.Common.{T, eqb, ltb, leb, ◌⊎◌, ℤ, pos, sym, refl, ap, ◌∙◌, subst, inl, inr, true≢false, lt_trans}
use Rattle.std.proofs.Common.{le_of_eq, lt_of_lt_of_le, lt_of_le_of_lt, le_of_lt, lt_irrefl, eq-or-lt_of_le}
use Rattle.std.proofs.Common.{not-le_of_lt, le_of_mul-le-mul_right, arith, eqb→eq, ltb→lt, leb→le, pow_pos}
use lib.Dec.{nleb→lt}
use lib.Ieee.{Float, nan, inf, fin, Format, prec, emax, low, up, down, odd, units, round, le, fits, to_bits}
use lib.Ieee.Exact.{HasValue}
use lib.Ieee.Fits.{round-fits, round_is, down_pos}
use lib.Ieee.Order.{round_mono, transfer, kept, drop}
use Rattle.interval.specs.Pattern.{inf_bits, magnitude}
use Rattle.interval.proofs.Patterns.{magnitude_step, magnitude_exact, bits_under, bits_infinity, bits_val}

-- ---- a larger pattern is a larger number
climb : (f : Format) (i k : ℕ) → magnitude f i < magnitude f (i + suc k)
climb f i zero = magnitude_step f i
climb f i (suc k) =
    let e : i + suc k + 1 ≡ i + suc (suc k) = omega arith in
    lt_trans (climb f i k) (subst (λ (z : ℕ). magnitude f (i + suc k) < magnitude f z) e (magnitude_step f (i + suc k)))

pub magnitude_lt : (f : Format) (i j : ℕ) → i < j → magnitude f i < magnitude f j
magnitude_lt f i j h =
    let e : i + suc (j - suc i) ≡ j = omega arith in
    subst (λ (z : ℕ). magnitude f i < magnitude f z) e (climb f i (j - suc i))

pub magnitude_le : (f : Format) (i j : ℕ) → i ≤ j → magnitude f i ≤ magnitude f j
magnitude_le f i j h =
    elim (eq-or-lt_of_le h) [ inl e ↦ le_of_eq (ap (magnitude f) e) | inr l ↦ le_of_lt (magnitude_lt f i j l) ]

-- ---- what `le` says of two values that are not negative
or_le : (a b : ℕ) → T (ltb a b || (eqb a b && true)) → a ≤ b
or_le a b h = go (ltb a b) (eqb a b) (ltb→lt a b) (eqb→eq a b) h
  where
    go : (x y : Bool) → (T x → a < b) → (T y → a ≡ b) → T (x || (y && true)) → a ≤ b
    go true y p q h = le_of_lt (p tt)
    go false true p q h = le_of_eq (q tt)
    go false false p q h = absurd h

pub le_values : (x y : Float) (a b l : ℕ) → 0 < l → HasValue x false a l → HasValue y false b l → T (le x y) → a ≤ b
unfolding le
le_values nan y a b l L p q h = absurd p
le_values (inf s) y a b l L p q h = absurd p
le_values (fin true m e) y a b l L p q h = absurd (true≢false p.0)
le_values (fin false m e) nan a b l L p q h = absurd q
le_values (fin false m e) (inf s) a b l L p q h = absurd q
le_values (fin false m e) (fin true n d) a b l L p q h = absurd (true≢false q.0)
le_values (fin false m e) (fin false n d) a b l L p q h =
    le_of_mul-le-mul_right
    (transfer a b l l (m * up e) (n * up d) (down e) (down d) (down_pos e) (down_pos d) (sym p.1) (sym q.1)
    (or_le (m * up e * down d) (n * up d * down e) h)) L

pub no_inf : (x : Float) (a l : ℕ) → HasValue x false a l → T (le (inf false) x) → ⊥
unfolding le
no_inf (fin s m e) a l p h = h
no_inf nan a l p h = elim p [ ]
no_inf (inf _) a l p h = elim p [ ]

-- ---- a fraction that is not negative rounds to a value that is not negative
unfoldable pub NonNegative : Float → Type 0
NonNegative v = (v ≡ inf false) ⊎ ((m : ℕ) × (e : ℤ) × (v ≡ fin false m e))

units_nonneg : (f : Format) (q k : ℕ) → NonNegative (units f false q k)
unfolding NonNegative units odd
units_nonneg f zero k = go (ltb (zero * 2 ^ k) (2 ^ (low f + suc (emax f))))
  where
    go : (b : Bool) → NonNegative (cond b (odd (suc (prec f)) false zero k (low f)) (inf false))
    go true = inr (zero, pos zero, refl)
    go false = inl refl
units_nonneg f (suc q) k = go (ltb (suc q * 2 ^ k) (2 ^ (low f + suc (emax f))))
  where
    go : (b : Bool) → NonNegative (cond b (odd (suc (prec f)) false (suc q) k (low f)) (inf false))
    go true = inr (_, _, refl)
    go false = inl refl

pub round_nonneg : (f : Format) (a c : ℕ) → NonNegative (round f false a c)
round_nonneg f a c = subst NonNegative (sym (round_is f false a c))
    (units_nonneg f (kept (prec f) (a * 2 ^ low f) c) (drop (prec f) (a * 2 ^ low f) c))

-- ---- the pattern of a / c rounded
unfoldable pub at : Format → ℕ → ℕ → ℕ
at f a c = to_bits f (round f false a c)

-- a value that is not negative: its pattern is an infinity's, or below it, and then it has the pattern's value
abbrev pub Placed : Format → Float → Type 0
Placed f v = ((v ≡ inf false) × (to_bits f v ≡ inf_bits f))
    ⊎ ((to_bits f v < inf_bits f) × HasValue v false (magnitude f (to_bits f v)) (2 ^ low f))

pub placed : (f : Format) (v : Float) → T (fits f v) → NonNegative v → Placed f v
unfolding NonNegative
placed f v t (inl e) = inl (e, ap (to_bits f) e ∙ bits_infinity f)
placed f v t (inr w) =
    subst (λ (z : Float). T (fits f z) → Placed f z) (sym w.2)
    (λ (u : T (fits f (fin false w.0 w.1))). inr (bits_under f w.0 w.1 u, bits_val f w.0 w.1 u)) t

pub at_le : (f : Format) (a c : ℕ) → at f a c ≤ inf_bits f
unfolding at
at_le f a c = elim (placed f (round f false a c) (round-fits f false a c)
    (round_nonneg f a c)) [ inl w ↦ le_of_eq w.1 | inr w ↦ le_of_lt w.0 ]

-- ---- a / c at or above a pattern's number rounds to that pattern or above, and at or below it to that or below
pub le_or_lt : (x y : ℕ) → (x ≤ y) ⊎ (y < x)
le_or_lt x y = go (leb x y) (leb→le x y) (nleb→lt x y)
  where
    go : (b : Bool) → (T b → x ≤ y) → (T (not b) → y < x) → (x ≤ y) ⊎ (y < x)
    go true p q = inl (p tt)
    go false p q = inr (q tt)

pub at_ge : (f : Format) (a c i : ℕ) → 0 < c → i < inf_bits f → magnitude f i * c ≤ a * 2 ^ low f → i ≤ at f a c
unfolding at
at_ge f a c i C I n =
    let l = 2 ^ low f in
    elim (le_or_lt i (to_bits f (round f false a c))) [
      | inl y ↦ y
      | inr h ↦
          let m = round_mono f (magnitude f i) l a c (pow_pos (low f)) C n in
          elim (placed f (round f false a c) (round-fits f false a c) (round_nonneg f a c)) [
            | inl w ↦ absurd
                (lt_irrefl (inf_bits f) (lt_of_le_of_lt (le_of_eq (sym w.1)) (lt_of_lt_of_le h (le_of_lt I))))
            | inr w ↦
                absurd (not-le_of_lt (magnitude_lt f (to_bits f (round f false a c)) i h)
                (le_values (round f false (magnitude f i) l) (round f false a c) (magnitude f i)
                (magnitude f (to_bits f (round f false a c))) l (pow_pos (low f)) (magnitude_exact f i I) w.1 m))
          ]
    ]

pub at_most : (f : Format) (a c i : ℕ) → 0 < c → i < inf_bits f → a * 2 ^ low f ≤ magnitude f i * c → at f a c ≤ i
unfolding at
at_most f a c i C I n =
    let l = 2 ^ low f in
    elim (le_or_lt (to_bits f (round f false a c)) i) [
      | inl y ↦ y
      | inr h ↦
          let m = round_mono f a c (magnitude f i) l C (pow_pos (low f)) n in
          elim (placed f (round f false a c) (round-fits f false a c) (round_nonneg f a c)) [
            | inl w ↦ absurd (no_inf (round f false (magnitude f i) l) (magnitude f i) l (magnitude_exact f i I)
                (subst (λ (z : Float). T (le z (round f false (magnitude f i) l))) w.0 m))
            | inr w ↦
                absurd (not-le_of_lt (magnitude_lt f i (to_bits f (round f false a c)) h)
                (le_values (round f false a c) (round f false (magnitude f i) l) (magnitude f
                (to_bits f (round f false a c))) (magnitude f i) l (pow_pos (low f)) w.1 (magnitude_exact f i I) m))
          ]
    ]

-- ---- every pattern below the rounded value's is at most a / c, and every one above is at least a / c
pub below_at : (f : Format) (a c i : ℕ) → 0 < c → i < at f a c → magnitude f i * c ≤ a * 2 ^ low f
below_at f a c i C h = elim (le_or_lt (magnitude f i * c) (a * 2 ^ low f)) [
  | inl y ↦ y
  | inr n ↦ absurd (not-le_of_lt h (at_most f a c i C (lt_of_lt_of_le h (at_le f a c)) (le_of_lt n)))
]

pub above_at : (f : Format) (a c i : ℕ) → 0 < c → at f a c < i → i < inf_bits f → a * 2 ^ low f ≤ magnitude f i * c
above_at f a c i C h I = elim (le_or_lt (a * 2 ^ low f) (magnitude f i * c)) [
  | inl y ↦ y
  | inr n ↦ absurd (not-le_of_lt h (at_ge f a c i C I (le_of_lt n)))
]
