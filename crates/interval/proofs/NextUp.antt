-- The pattern of a negative number is that of its size with the sign's weight. So one pattern up is one more for a
-- number that is not negative, and one less for a negative one.
use Rattle.std.proofs.Common.{◌≡◌, ℕ, zero, suc, ◌+◌, ◌-◌, ◌*◌, ◌/◌, ◌%◌, ◌^◌, ◌<◌, ◌≤◌, Bool, true, false, cond, not}
use Rattle.std.proofs.Common.{◌||◌, T, eqb, ltb, leb, ◌⊎◌, ℤ, pos, sym, refl, ap, ◌∙◌, subst, inl, inr, true≢false}
use Rattle.std.proofs.Common.{lt_irrefl, mod-eq_of_lt, zero-lt-suc, mul-pos, zero-mul, mul-one, arith, le→leb, eqb→eq}
use Rattle.std.proofs.Common.{nltb→le}
use native.Mathlib.Nat.{div-eq_of_lt}
use mathlib.Core.Bool.{beq, false≢true}
use lib.Arith.{lt→nleb, le→nltb}
use lib.Ieee.{Float, nan, inf, fin, binary64, up, down, low, prec, size, hid, ones, top, odd, of_fields, of_bits}
use lib.Ieee.{to_bits}
use lib.Ieee.{neg, is_nan, nan_bits, lt, le, eq, fits}
use lib.Ieee.Fits.{and_l, up_pos, down_pos}
use lib.Ieee.Bits.{nan_bits_above, is_true, is_false}
use Rattle.interval.specs.Pattern.{inf_bits}
use Rattle.interval.specs.Step.{next_up}
use Rattle.interval.proofs.Tests.{eq_zero, step_in, step_out}
use Rattle.interval.proofs.Patterns.{no_nan}

shift : (t a b : ℕ) → t + a + b ≡ t + (0 + a + b)
shift t a b = omega arith

pub bits_neg : (m : ℕ) (e : ℤ) → to_bits binary64 (fin true m e) ≡ top binary64 + to_bits binary64 (fin false m e)
unfolding to_bits
bits_neg m e = shift (top binary64) _ _

pub bits_neg_inf : to_bits binary64 (inf true) ≡ top binary64 + to_bits binary64 (inf false)
unfolding to_bits
bits_neg_inf = refl

nought : (e : ℤ) → zero * up e * 2 ^ low binary64 / down e ≡ 0
nought e = ap (λ (z : ℕ). z * 2 ^ low binary64 / down e) (zero-mul (up e))
    ∙ ap (λ (z : ℕ). z / down e) (zero-mul (2 ^ low binary64)) ∙ div-eq_of_lt (down_pos e)

pub bits_zero : (s : Bool) (e : ℤ) → to_bits binary64 (fin s zero e) % 9223372036854775808 ≡ 0
unfolding to_bits size
bits_zero s e =
    ap (λ (n : ℕ). (cond s (top binary64) 0 + (size n - prec binary64) * hid binary64 + n / 2
    ^ (size n - prec binary64)) % 9223372036854775808) (nought e) ∙ at s
  where
    at : (s : Bool)
        → (cond s (top binary64) 0 + (size 0 - prec binary64) * hid binary64 + 0 / 2 ^ (size 0 - prec binary64))
        % 9223372036854775808 ≡ 0
    at true = refl
    at false = refl

-- ---- the sign of a pattern
fields_neg : (x t : ℕ) → of_fields binary64 true x t ≡ neg (of_fields binary64 false x t)
unfolding of_fields neg odd
fields_neg zero zero = refl
fields_neg zero (suc t) = refl
fields_neg (suc x) t = go (eqb (suc x) (ones binary64)) (eqb t 0) (hid binary64 + t)
  where
    digits : (n : ℕ) → odd (prec binary64) true n x (low binary64) ≡ neg (odd (prec binary64) false n x (low binary64))
    digits zero = refl
    digits (suc n) = refl

    go : (a b : Bool) (n : ℕ) → cond a (cond b (inf true) nan) (odd (prec binary64) true n x (low binary64))
        ≡ neg (cond a (cond b (inf false) nan) (odd (prec binary64) false n x (low binary64)))
    go true true n = refl
    go true false n = refl
    go false b n = digits n

pub of_bits-neg : (n : ℕ) → n ≤ inf_bits binary64
    → of_bits binary64 (9223372036854775808 + n) ≡ neg (of_bits binary64 n)
unfolding of_bits
of_bits-neg n h =
    let small : n < 9223372036854775808 = omega (arith, h) in
    let big : leb 9223372036854775808 (9223372036854775808 + n) ≡ true =
    is_true _ (le→leb 9223372036854775808 (9223372036854775808 + n) (omega arith)) in
    let no : leb 9223372036854775808 n ≡ false = is_false _ (lt→nleb 9223372036854775808 n small) in
    let x : (9223372036854775808 + n) % 9223372036854775808 ≡ n % 9223372036854775808 = omega arith in
    let t : (9223372036854775808 + n) % 4503599627370496 ≡ n % 4503599627370496 = omega arith in
    ap (λ (b : Bool). of_fields binary64 b ((9223372036854775808 + n) % 9223372036854775808 / 4503599627370496)
    ((9223372036854775808 + n) % 4503599627370496)) big
    ∙ ap (λ (z : ℕ). of_fields binary64 true (z / 4503599627370496) ((9223372036854775808 + n) % 4503599627370496)) x
    ∙ ap (λ (z : ℕ). of_fields binary64 true (n % 9223372036854775808 / 4503599627370496) z) t
    ∙ fields_neg (n % 9223372036854775808 / 4503599627370496) (n % 4503599627370496)
    ∙ ap (λ (b : Bool). neg (of_fields binary64 b (n % 9223372036854775808 / 4503599627370496) (n % 4503599627370496)))
    (sym no)

pub no_nan_below : (n : ℕ) → n ≤ inf_bits binary64 → T (not (nan_bits binary64 (9223372036854775808 + n)))
no_nan_below n h =
    let small : n < 9223372036854775808 = omega (arith, h) in
    let x : (9223372036854775808 + n) % 9223372036854775808 ≡ n = omega arith in
    subst (λ (z : Bool). T (not z)) (sym (nan_bits_above binary64 (9223372036854775808 + n)))
    (subst (λ (z : ℕ). T (not (ltb (inf_bits binary64) z))) (sym x) (le→nltb (inf_bits binary64) n h))

-- ---- what the tests leave of x
pub not_nan : (x : Float) → lt x (inf false) ≡ true → T (not (is_nan x))
unfolding lt is_nan
not_nan nan a = absurd (false≢true a)
not_nan (inf s) a = tt
not_nan (fin s m e) a = tt

pub ends : (x : Float) → lt x (inf false) ≡ false → x ≡ next_up x
unfolding lt next_up
ends nan a = refl
ends (inf true) a = absurd (true≢false a)
ends (inf false) a = refl
ends (fin s m e) a = absurd (true≢false a)

or_right : (a : Bool) → (a || true) ≡ true
or_right true = refl
or_right false = refl

or_first : (a b : Bool) → (a || b) ≡ false → a ≡ false
or_first true b h = h
or_first false b h = refl

or_second : (a b : Bool) → (a || b) ≡ false → b ≡ false
or_second true b h = absurd (true≢false h)
or_second false b h = h

over : (m : ℕ) (e : ℤ) → 0 < suc m * up e * 1
over m e = subst (λ (z : ℕ). 0 < z) (sym (mul-one (suc m * up e))) (mul-pos (zero-lt-suc m) (up_pos e))

abbrev pub Up : Float → Type 0
Up x = (to_bits binary64 x % 9223372036854775808 < inf_bits binary64)
    × (of_bits binary64 (to_bits binary64 x % 9223372036854775808 + 1) ≡ next_up x)

pub up_side : (x : Float) → T (fits binary64 x) → lt x (inf false) ≡ true → le (fin false 0 (pos 0)) x ≡ true → Up x
unfolding lt le eq next_up
up_side nan t a b = absurd (false≢true a)
up_side (inf true) t a b = absurd (false≢true b)
up_side (inf false) t a b = absurd (false≢true a)
up_side (fin s zero e) t a b =
    subst (λ (z : ℕ). (z < inf_bits binary64) × (of_bits binary64 (z + 1) ≡ of_bits binary64 1)) (sym (bits_zero s e))
    (omega arith, refl)
up_side (fin true (suc m) e) t a b =
    let h : 0 * down e ≡ suc m * up e * 1 = eqb→eq (0 * down e) (suc m * up e * 1)
    (and_l (eqb (0 * down e) (suc m * up e * 1)) (beq false true || eqb (0 * down e) 0) (subst T (sym b) tt)) in
    absurd (lt_irrefl 0 (subst (λ (z : ℕ). 0 < z) (sym h ∙ zero-mul (down e)) (over m e)))
up_side (fin false (suc m) e) t a b =
    let r = step_out (fin false (suc m) e) t (m, e, refl) in
    let small : to_bits binary64 (fin false (suc m) e) < 9223372036854775808 = omega (arith, r.0) in
    subst (λ (z : ℕ). (z < inf_bits binary64) × (of_bits binary64 (z + 1) ≡ next_up (fin false (suc m) e)))
    (sym (mod-eq_of_lt small)) r

pub below_zero : (x : Float) → lt x (inf false) ≡ true → le (fin false 0 (pos 0)) x ≡ false
    → (x ≡ inf true) ⊎ ((m : ℕ) × (e : ℤ) × (x ≡ fin true (suc m) e))
unfolding lt le eq
below_zero nan a b = absurd (false≢true a)
below_zero (inf true) a b = inl refl
below_zero (inf false) a b = absurd (false≢true a)
below_zero (fin s zero e) a b = absurd (true≢false (sym (eq_zero s e)
    ∙ or_second (lt (fin false 0 (pos 0)) (fin s zero e)) (eq (fin false 0 (pos 0)) (fin s zero e)) b))
below_zero (fin true (suc m) e) a b = inr (m, e, refl)
below_zero (fin false (suc m) e) a b =
    let h : suc m * up e * 1 ≤ 0 * down e = nltb→le (0 * down e) (suc m * up e * 1) (subst (λ (z : Bool). T (not z))
    (sym (or_first (ltb (0 * down e) (suc m * up e * 1)) (eq (fin false 0 (pos 0)) (fin false (suc m) e)) b)) tt) in
    absurd (lt_irrefl 0 (omega (arith, h, over m e, zero-mul (down e))))

with_sign : (x : Float) → (x ≡ inf true) ⊎ ((m : ℕ) × (e : ℤ) × (x ≡ fin true (suc m) e))
    → to_bits binary64 x ≡ 9223372036854775808 + to_bits binary64 (neg x)
unfolding neg
with_sign x (inl q) =
    subst (λ (y : Float). to_bits binary64 y ≡ 9223372036854775808 + to_bits binary64 (neg y)) (sym q) bits_neg_inf
with_sign x (inr w) = subst (λ (y : Float). to_bits binary64 y ≡ 9223372036854775808 + to_bits binary64 (neg y))
    (sym w.2) (bits_neg (suc w.0) w.1)

pub record Down (x : Float) : Type 0 where
  pub signed : 9223372036854775808 < to_bits binary64 x
  pub room : to_bits binary64 x ≤ 9223372036854775808 + inf_bits binary64
  pub number : T (not (nan_bits binary64 (to_bits binary64 x - 1)))
  pub next : of_bits binary64 (to_bits binary64 x - 1) ≡ next_up x

pub down_side : (x : Float) → T (fits binary64 x)
    → (x ≡ inf true) ⊎ ((m : ℕ) × (e : ℤ) × (x ≡ fin true (suc m) e)) → Down x
down_side x t w =
    let i = step_in x t w in
    let n = to_bits binary64 (neg x) - 1 in
    let near : n ≤ inf_bits binary64 = omega (arith, i.1) in
    let e : to_bits binary64 x - 1 ≡ 9223372036854775808 + n = omega (arith, with_sign x w, i.0) in
    record {
      signed = omega (arith, with_sign x w, i.0);
      room = omega (arith, with_sign x w, i.1);
      number = subst (λ (z : ℕ). T (not (nan_bits binary64 z))) (sym e) (no_nan_below n near);
      next = ap (of_bits binary64) e ∙ of_bits-neg n near ∙ i.2;
    }

-- ---- the pattern that `pattern_above` gives, for either sign s
pub record Stepped (x : Float) (s : Bool) : Type 0 where
  pub some : s ≡ false → 1 ≤ to_bits binary64 x
  pub number : T (not (nan_bits binary64
      (cond s (to_bits binary64 x % 9223372036854775808 + 1) (to_bits binary64 x - 1))))
  pub next : of_bits binary64
      (cond s (to_bits binary64 x % 9223372036854775808 + 1) (to_bits binary64 x - 1)) ≡ next_up x

pub stepped : (x : Float) → T (fits binary64 x) → lt x (inf false) ≡ true → Stepped x (le (fin false 0 (pos 0)) x)
stepped x t a = go (le (fin false 0 (pos 0)) x) refl
  where
    go : (s : Bool) → le (fin false 0 (pos 0)) x ≡ s → Stepped x s
    go true e = let r = up_side x t a e in
        record { some = λ f. absurd (true≢false f); number = no_nan binary64 _ (omega (arith, r.0)); next = r.1 }
    go false e = let r = down_side x t (below_zero x a e) in
        record { some = λ f. omega (arith, r.signed); number = r.number; next = r.next }
