-- The rank of a float among all floats of its format, as one natural number: the zeros have rank `inf_bits`, a step up
-- adds 1, and the order of ranks is the order of numbers.
use Rattle.std.proofs.Common.{◌≡◌, ℕ, zero, suc, ◌+◌, ◌-◌, ◌*◌, ◌/◌, ◌^◌, ◌<◌, ◌≤◌, Bool, true, false, cond, T, ltb, ℤ}
use Rattle.std.proofs.Common.{sym, refl, ap, ◌∙◌, subst, inl, inr, le_of_lt, lt_irrefl, mul-le-mul_right, add-mul}
use Rattle.std.proofs.Common.{eq-zero-or-pos, mul-pos, zero-mul, mul-div_cancel, arith, pow_pos}
use lib.Ieee.{Float, nan, inf, fin, Format, prec, emax, low, up, down, odd, units, round, neg, fits, to_bits}
use lib.Ieee.Exact.{HasValue, round_exact}
use lib.Ieee.Fits.{round-fits, round_is, down_pos, neg-fits}
use lib.Ieee.Order.{kept, drop}
use lib.Ieee.Scale.{finite}
use lib.Ieee.Positive.{first_pos}
use Rattle.interval.specs.Enclosure.{units_of}
use Rattle.interval.specs.Pattern.{inf_bits, magnitude}
use Rattle.interval.proofs.Integers.{P, N, P-neg, N-neg}
use Rattle.interval.proofs.Patterns.{magnitude_zero, bits_under, bits_infinity, bits_val}
use Rattle.interval.proofs.Rounding.{magnitude_lt, NonNegative, round_nonneg, at, below_at, above_at, placed}
pub use Rattle.interval.proofs.Rounding.{le_or_lt}

-- on either side of the zeros
abbrev pub side : Format → Bool → ℕ → ℕ
side f false b = inf_bits f + b
side f true b = inf_bits f - b

unfoldable pub rank : Format → Float → ℕ
rank f nan = 0
rank f (inf s) = side f s (inf_bits f)
rank f (fin s m e) = side f s (to_bits f (fin false m e))

-- the number of a rank, in units, as a difference
abbrev pub VP : Format → ℕ → ℕ
VP f i = magnitude f (i - inf_bits f)

abbrev pub VN : Format → ℕ → ℕ
VN f i = magnitude f (inf_bits f - i)

-- ---- a finite value is the number of its rank
pub count : (f : Format) (m : ℕ) (e : ℤ) → T (fits f (fin false m e))
    → m * up e * 2 ^ low f / down e ≡ magnitude f (to_bits f (fin false m e))
count f m e t = ap (λ (z : ℕ). z / down e) (bits_val f m e t).1
    ∙ mul-div_cancel (magnitude f (to_bits f (fin false m e))) (down_pos e)

pub units-P : (f : Format) (x : Float) → T (fits f x) → T (finite x) → P (units_of f x) ≡ VP f (rank f x)
unfolding units_of rank
units-P f (fin false m e) t h = count f m e t ∙ ap (magnitude f) (sym (back (inf_bits f) (to_bits f (fin false m e))))
  where
    back : (a b : ℕ) → a + b - a ≡ b
    back a b = omega arith
units-P f (fin true m e) t h = P-neg (m * up e * 2 ^ low f / down e) ∙ sym (magnitude_zero f)
    ∙ ap (magnitude f) (sym (none (inf_bits f) (to_bits f (fin false m e))))
  where
    none : (a b : ℕ) → a - b - a ≡ 0
    none a b = omega arith
units-P f nan t h = elim h [ ]
units-P f (inf _) t h = elim h [ ]

pub units-N : (f : Format) (x : Float) → T (fits f x) → T (finite x) → N (units_of f x) ≡ VN f (rank f x)
unfolding units_of rank
units-N f (fin false m e) t h =
    sym (magnitude_zero f) ∙ ap (magnitude f) (sym (none (inf_bits f) (to_bits f (fin false m e))))
  where
    none : (a b : ℕ) → a - (a + b) ≡ 0
    none a b = omega arith
units-N f (fin true m e) t h =
    let u : T (fits f (fin false m e)) = unfold neg in neg-fits f (fin true m e) t in
    N-neg (m * up e * 2 ^ low f / down e) ∙ count f m e u
    ∙ ap (magnitude f) (sym (back (inf_bits f) (to_bits f (fin false m e)) (bits_under f m e u)))
  where
    back : (a b : ℕ) → b < a → a - (a - b) ≡ b
    back a b h = omega arith
units-N f nan t h = elim h [ ]
units-N f (inf _) t h = elim h [ ]

-- a finite value is between the infinities
pub rank_in : (f : Format) (x : Float) → T (fits f x) → T (finite x)
    → (0 < rank f x) × (rank f x < inf_bits f + inf_bits f)
unfolding rank
rank_in f (fin false m e) t h = let b = bits_under f m e t in (omega arith, omega arith)
rank_in f (fin true m e) t h =
    let u : T (fits f (fin false m e)) = unfold neg in neg-fits f (fin true m e) t in
    let b = bits_under f m e u in (omega arith, omega arith)
rank_in f nan t h = elim h [ ]
rank_in f (inf _) t h = elim h [ ]

-- ---- a rounded fraction's rank
pub neg_round : (f : Format) (a c : ℕ) → round f true a c ≡ neg (round f false a c)
unfolding units odd neg
neg_round f a c = round_is f true a c ∙ go (kept (prec f) (a * 2 ^ low f) c) (drop (prec f) (a * 2 ^ low f) c)
    ∙ ap neg (sym (round_is f false a c))
  where
    go : (q k : ℕ) → units f true q k ≡ neg (units f false q k)
    go zero k = pick (ltb (zero * 2 ^ k) (2 ^ (low f + suc (emax f))))
      where
        pick : (b : Bool) → cond b (odd (suc (prec f)) true zero k (low f)) (inf true)
            ≡ neg (cond b (odd (suc (prec f)) false zero k (low f)) (inf false))
        pick true = refl
        pick false = refl
    go (suc q) k = pick (ltb (suc q * 2 ^ k) (2 ^ (low f + suc (emax f))))
      where
        pick : (b : Bool) → cond b (odd (suc (prec f)) true (suc q) k (low f)) (inf true)
            ≡ neg (cond b (odd (suc (prec f)) false (suc q) k (low f)) (inf false))
        pick true = refl
        pick false = refl

pub nonneg_rank : (f : Format) (v : Float) → NonNegative v
    → (rank f v ≡ inf_bits f + to_bits f v) × (rank f (neg v) ≡ inf_bits f - to_bits f v)
unfolding NonNegative rank neg
nonneg_rank f v (inl e) =
    subst (λ (z : Float). (rank f z ≡ inf_bits f + to_bits f z) × (rank f (neg z) ≡ inf_bits f - to_bits f z)) (sym e)
    (ap (λ (b : ℕ). inf_bits f + b) (sym (bits_infinity f)), ap (λ (b : ℕ). inf_bits f - b) (sym (bits_infinity f)))
nonneg_rank f v (inr w) =
    subst (λ (z : Float). (rank f z ≡ inf_bits f + to_bits f z) × (rank f (neg z) ≡ inf_bits f - to_bits f z))
    (sym w.2) (refl, refl)

pub round_rank : (f : Format) (s : Bool) (a c : ℕ) → rank f (round f s a c) ≡ side f s (at f a c)
unfolding at
round_rank f false a c = (nonneg_rank f (round f false a c) (round_nonneg f a c)).0
round_rank f true a c = ap (rank f) (neg_round f a c) ∙ (nonneg_rank f (round f false a c) (round_nonneg f a c)).1

-- zero rounds to zero
pub zero_value : (x : Float) (c n l : ℕ) → HasValue x false 0 c → HasValue x false n l → 0 < c → n ≡ 0
zero_value (fin s m e) c n l p q C = elim (eq-zero-or-pos n) [
  | inl z ↦ z
  | inr h ↦
      let a : 0 < m * up e = first_pos (m * up e) l (subst (λ (z : ℕ). 0 < z) (sym q.1) (mul-pos h (down_pos e))) in
      absurd (lt_irrefl 0 (subst (λ (z : ℕ). 0 < z) (p.1 ∙ zero-mul (down e)) (mul-pos a C)))
]
zero_value nan c n l p q C = elim p [ ]
zero_value (inf _) c n l p q C = elim p [ ]

pub at_zero : (f : Format) (c : ℕ) → 0 < c → at f 0 c ≡ 0
unfolding at
at_zero f c C =
    let v = round f false 0 c in
    let z : HasValue v false 0 c = round_exact f false 0 c 0 0 C (pow_pos (prec f)) (pow_pos (low f + suc (emax f)))
    (zero-mul (2 ^ low f) ∙ sym (zero-mul c)) in
    elim (placed f v (round-fits f false 0 c) (round_nonneg f 0 c)) [
      | inl w ↦ absurd (subst (λ (x : Float). HasValue x false 0 c) w.0 z)
      | inr w ↦
          let n : magnitude f (to_bits f v) ≡ 0 = zero_value v c (magnitude f (to_bits f v)) (2 ^ low f) z w.1 C in
          elim (eq-zero-or-pos (to_bits f v)) [
            | inl e ↦ e
            | inr h ↦ absurd (lt_irrefl 0 (subst (λ (k : ℕ). k < 0) (magnitude_zero f)
                (subst (λ (k : ℕ). magnitude f 0 < k) n (magnitude_lt f 0 (to_bits f v) h))))
          ]
    ]

-- ---- the rank of (p - q) / c rounded
abbrev pub rank_of : Format → ℕ → ℕ → ℕ → ℕ
rank_of f p q c = inf_bits f + at f (p - q) c - at f (q - p) c

pub none_at : (f : Format) (a c : ℕ) → 0 < c → a ≡ 0 → at f a c ≡ 0
none_at f a c C e = ap (λ (z : ℕ). at f z c) e ∙ at_zero f c C

none_magnitude : (f : Format) (j c : ℕ) → j ≡ 0 → magnitude f j * c ≡ 0
none_magnitude f j c e = ap (λ (z : ℕ). magnitude f z * c) e ∙ ap (λ (z : ℕ). z * c) (magnitude_zero f) ∙ zero-mul c

split : (p q l : ℕ) → q ≤ p → (p - q) * l + q * l ≡ p * l
split p q l h = sym (add-mul (p - q) q l) ∙ ap (λ (z : ℕ). z * l) (omega arith)

-- a rank below it has a number that is no larger
pub under_ρ : (f : Format) (p q c i : ℕ) → 0 < c → 0 < i → i < rank_of f p q c
    → VP f i * c + q * 2 ^ low f ≤ p * 2 ^ low f + VN f i * c
under_ρ f p q c i C I h =
    let l = 2 ^ low f in
    elim (le_or_lt q p) [
      | inl g ↦
          let z : at f (q - p) c ≡ 0 = none_at f (q - p) c C (omega arith) in
          elim (le_or_lt i (inf_bits f)) [
            | inl k ↦ omega (arith, none_magnitude f (i - inf_bits f) c (omega arith), mul-le-mul_right l g)
            | inr k ↦
                let b : magnitude f (i - inf_bits f) * c ≤ (p - q) * l =
                below_at f (p - q) c (i - inf_bits f) C (omega arith) in
                omega (arith, split p q l g)
          ]
      | inr g ↦
          let z : at f (p - q) c ≡ 0 = none_at f (p - q) c C (omega arith) in
          let b : (q - p) * l ≤ magnitude f (inf_bits f - i) * c =
          above_at f (q - p) c (inf_bits f - i) C (omega arith) (omega arith) in
          omega (arith, split q p l (le_of_lt g), none_magnitude f (i - inf_bits f) c (omega arith))
    ]

-- a rank above it has a number that is no smaller
pub over_ρ : (f : Format) (p q c i : ℕ) → 0 < c → i < inf_bits f + inf_bits f → rank_of f p q c < i
    → p * 2 ^ low f + VN f i * c ≤ VP f i * c + q * 2 ^ low f
over_ρ f p q c i C I h =
    let l = 2 ^ low f in
    elim (le_or_lt p q) [
      | inl g ↦
          let z : at f (p - q) c ≡ 0 = none_at f (p - q) c C (omega arith) in
          elim (le_or_lt (inf_bits f) i) [
            | inl k ↦ omega (arith, none_magnitude f (inf_bits f - i) c (omega arith), mul-le-mul_right l g)
            | inr k ↦
                let b : magnitude f (inf_bits f - i) * c ≤ (q - p) * l =
                below_at f (q - p) c (inf_bits f - i) C (omega arith) in
                omega (arith, split q p l g)
          ]
      | inr g ↦
          let z : at f (q - p) c ≡ 0 = none_at f (q - p) c C (omega arith) in
          let b : (p - q) * l ≤ magnitude f (i - inf_bits f) * c =
          above_at f (p - q) c (i - inf_bits f) C (omega arith) (omega arith) in
          omega (arith, split p q l (le_of_lt g), none_magnitude f (inf_bits f - i) c (omega arith))
    ]
