-- What the comparisons of a float with zero, the infinities and itself say of its form.
use Rattle.std.proofs.Common.{◌≡◌, ℕ, zero, suc, ◌+◌, ◌-◌, ◌*◌, ◌<◌, ◌≤◌, Bool, true, false, not, ◌&&◌, ◌||◌, T, eqb}
use Rattle.std.proofs.Common.{ltb, ◌⊎◌, ℤ, pos, sym, refl, ap, ◌∙◌, subst, inl, inr, true≢false, le_of_eq}
use Rattle.std.proofs.Common.{lt_of_le_of_lt, le_of_lt, lt_irrefl, zero-lt-suc, mul-pos, zero-mul, mul-one, arith, lit≤}
use Rattle.std.proofs.Common.{eqb→eq, ltb→lt, nltb→le}
use mathlib.Core.Bool.{beq, false≢true}
use lib.Ieee.Compare.{differs_from_itself}
use Rattle.std.specs.Float.{float_is_finite}
use lib.Ieee.{Float, nan, inf, fin, up, down, ne, eq, lt, level, is_nan, neg, fits, to_bits, of_bits, binary64}
use lib.Ieee.Fits.{and_l, neg-fits, up_pos}
use lib.Ieee.Compare.{differs_from_itself}
use lib.Ieee.Scale.{finite}
use Rattle.interval.specs.Pattern.{inf_bits}
use Rattle.interval.specs.Step.{next_up}
use Rattle.interval.proofs.Patterns.{bits_under, bits_infinity, bits_pos}

zero_of : (a : ℕ) → 0 * a * 1 ≡ 0
zero_of a = ap (λ (z : ℕ). z * 1) (zero-mul a)

pub zero_eq : (s : Bool) (e : ℤ) → eq (fin s zero e) (fin false 0 (pos 0)) ≡ true
unfolding eq
zero_eq s e =
    ap (λ (z : ℕ). level s z false (0 * down e)) (zero_of (up e))
    ∙ ap (λ (z : ℕ). level s 0 false z) (zero-mul (down e)) ∙ sign s
  where
    sign : (s : Bool) → (true && (beq s false || true)) ≡ true
    sign true = refl
    sign false = refl

pub eq_zero : (s : Bool) (e : ℤ) → eq (fin false 0 (pos 0)) (fin s zero e) ≡ true
unfolding eq
eq_zero s e =
    ap (λ (z : ℕ). level false (0 * down e) s z) (zero_of (up e))
    ∙ ap (λ (z : ℕ). level false z s 0) (zero-mul (down e)) ∙ sign s
  where
    sign : (s : Bool) → (true && (beq false s || true)) ≡ true
    sign true = refl
    sign false = refl

above_zero : (m : ℕ) (e : ℤ) → T (ltb (0 * down e) (m * up e * 1)) → 0 < m * up e
above_zero m e h = lt_of_le_of_lt (le_of_eq (sym (zero-mul (down e))))
    (subst (λ (z : ℕ). 0 * down e < z) (mul-one (m * up e)) (ltb→lt (0 * down e) (m * up e * 1) h))

pub positive_finite : (x : Float) → T (finite x) → lt (fin false 0 (pos 0)) x ≡ true
    → (m : ℕ) × (e : ℤ) × (x ≡ fin false (suc m) e)
unfolding lt
positive_finite (fin true m e) f c = absurd (false≢true c)
positive_finite (fin false zero e) f c =
    absurd (lt_irrefl 0 (subst (λ (z : ℕ). 0 < z) (zero-mul (up e)) (above_zero 0 e (subst T (sym c) tt))))
positive_finite (fin false (suc m) e) f c = (m, e, refl)
positive_finite nan f c = elim f [ ]
positive_finite (inf _) f c = elim f [ ]

pub positive : (x : Float) → ne x x ≡ false → eq x (inf false) ≡ false → lt (fin false 0 (pos 0)) x ≡ true
    → (m : ℕ) × (e : ℤ) × (x ≡ fin false (suc m) e)
unfolding ne eq lt
positive nan a b c = absurd (true≢false a)
positive (inf true) a b c = absurd (false≢true c)
positive (inf false) a b c = absurd (true≢false b)
positive (fin s m e) a b c = positive_finite (fin s m e) tt c

pub negative : (x : Float) → ne x x ≡ false → eq x (fin false 0 (pos 0)) ≡ false → lt (fin false 0 (pos 0)) x ≡ false
    → (x ≡ inf true) ⊎ ((m : ℕ) × (e : ℤ) × (x ≡ fin true (suc m) e))
unfolding ne eq lt
negative nan a b c = absurd (true≢false a)
negative (inf true) a b c = inl refl
negative (inf false) a b c = absurd (true≢false c)
negative (fin s zero e) a b c = absurd (true≢false (sym (zero_eq s e) ∙ b))
negative (fin true (suc m) e) a b c = inr (m, e, refl)
negative (fin false (suc m) e) a b c =
    let h : suc m * up e * 1 ≤ 0 * down e =
    nltb→le (0 * down e) (suc m * up e * 1) (subst (λ (z : Bool). T (not z)) (sym c) tt) in
    absurd (lt_irrefl 0 (lt_of_lt_of_le' (mul-pos (zero-lt-suc m) (up_pos e))
    (subst (λ (z : ℕ). z ≤ 0 * down e) (mul-one (suc m * up e)) h) (zero-mul (down e))))
  where
    lt_of_lt_of_le' : {a b : ℕ} → 0 < a → a ≤ b → b ≡ 0 → 0 < 0
    lt_of_lt_of_le' p q r = omega arith

pub no_nan_of : (x : Float) → ne x x ≡ false → T (not (is_nan x))
unfolding ne is_nan
no_nan_of nan a = absurd (true≢false a)
no_nan_of (inf s) a = tt
no_nan_of (fin s m e) a = tt

pub no_nan_neg : (x : Float) → ne x x ≡ false → T (not (is_nan (neg x)))
unfolding ne is_nan neg
no_nan_neg nan a = absurd (true≢false a)
no_nan_neg (inf s) a = tt
no_nan_neg (fin s m e) a = tt

-- ---- std's tests
pub same_finite : (x : Float) → float_is_finite x ≡ finite x
unfolding float_is_finite
same_finite nan = refl
same_finite (inf s) = refl
same_finite (fin s m e) = refl

pub same_nan : (x : Float) → is_nan x ≡ ne x x
unfolding is_nan ne eq
same_nan nan = refl
same_nan (inf true) = refl
same_nan (inf false) = refl
same_nan (fin s m e) = go (ne (fin s m e) (fin s m e)) refl
  where
    go : (b : Bool) → ne (fin s m e) (fin s m e) ≡ b → false ≡ b
    go true h = absurd (true≢false (ap finite (differs_from_itself (fin s m e) (subst T (sym h) tt))))
    go false h = refl

-- ---- the early returns
pub at_nan : (x : Float) → ne x x ≡ true → x ≡ next_up x
unfolding next_up
at_nan x a =
    let z : x ≡ nan = differs_from_itself x (subst T (sym a) tt) in
    subst (λ (y : Float). y ≡ next_up y) (sym z) refl

pub at_inf : (x : Float) → eq x (inf false) ≡ true → x ≡ next_up x
unfolding eq next_up
at_inf nan a = absurd (false≢true a)
at_inf (inf true) a = absurd (false≢true a)
at_inf (inf false) a = refl
at_inf (fin s m e) a = absurd (false≢true a)

pub zero_test : (x : Float) → eq x (fin false 0 (pos 0)) ≡ true → (s : Bool) × (e : ℤ) × (x ≡ fin s zero e)
unfolding eq
zero_test nan a = absurd (false≢true a)
zero_test (inf s) a = absurd (false≢true a)
zero_test (fin s zero e) a = (s, e, refl)
zero_test (fin s (suc m) e) a =
    let A = suc m * up e * 1 in
    let h : A ≡ 0 * down e =
    eqb→eq A (0 * down e) (and_l (eqb A (0 * down e)) (beq s false || eqb A 0) (subst T (sym a) tt)) in
    absurd (lt_irrefl 0 (subst (λ (z : ℕ). 0 < z) (sym (mul-one (suc m * up e)) ∙ h ∙ zero-mul (down e))
    (mul-pos (zero-lt-suc m) (up_pos e))))

pub at_zero : (x : Float) → eq x (fin false 0 (pos 0)) ≡ true → of_bits binary64 1 ≡ next_up x
unfolding next_up
at_zero x a = let w = zero_test x a in subst (λ (y : Float). of_bits binary64 1 ≡ next_up y) (sym w.2) refl

-- ---- a step away from zero, and a step towards it
pub step_out : (x : Float) → T (fits binary64 x) → (m : ℕ) × (e : ℤ) × (x ≡ fin false (suc m) e)
    → (to_bits binary64 x < inf_bits binary64) × (of_bits binary64 (to_bits binary64 x + 1) ≡ next_up x)
unfolding next_up
step_out x t w = go w.0 w.1 x w.2 t
  where
    go : (m : ℕ) (e : ℤ) (x : Float) → x ≡ fin false (suc m) e → T (fits binary64 x)
        → (to_bits binary64 x < inf_bits binary64) × (of_bits binary64 (to_bits binary64 x + 1) ≡ next_up x)
    go m e x q t =
        subst (λ (y : Float). T (fits binary64 y)
        → (to_bits binary64 y < inf_bits binary64) × (of_bits binary64 (to_bits binary64 y + 1) ≡ next_up y)) (sym q)
        (λ (t : T (fits binary64 (fin false (suc m) e))). (bits_under binary64 (suc m) e t, refl)) t

abbrev pub In : Float → Type 0
In x = (1 ≤ to_bits binary64 (neg x)) × (to_bits binary64 (neg x) ≤ inf_bits binary64)
    × (neg (of_bits binary64 (to_bits binary64 (neg x) - 1)) ≡ next_up x)

pub step_in : (x : Float) → T (fits binary64 x) → (x ≡ inf true) ⊎ ((m : ℕ) × (e : ℤ) × (x ≡ fin true (suc m) e)) → In x
unfolding next_up neg
step_in x t (inl q) = subst In (sym q)
    (subst (λ (b : ℕ). 1 ≤ b) (sym (bits_infinity binary64)) (lit≤ tt), le_of_eq (bits_infinity binary64), refl)
step_in x t (inr w) =
    subst (λ (y : Float). T (fits binary64 y) → In y) (sym w.2)
    (λ (t : T (fits binary64 (fin true (suc w.0) w.1))).
    let u : T (fits binary64 (fin false (suc w.0) w.1)) = neg-fits binary64 (fin true (suc w.0) w.1) t in
    (bits_pos binary64 w.0 w.1 u, le_of_lt (bits_under binary64 (suc w.0) w.1 u), refl)) t
