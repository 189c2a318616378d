-- x + 0 is x but for -0. A sum is -0 only where both terms are: two floats are whole numbers of units, so a sum or a
-- difference that is not 0 is at least one unit, and does not round to 0.
use Rattle.std.proofs.Common.{◌≡◌, ℕ, zero, suc, ◌+◌, ◌-◌, ◌*◌, ◌^◌, ◌<◌, ◌≤◌, Bool, true, false, cond, ◌&&◌, T, ltb, ℤ}
use Rattle.std.proofs.Common.{pos, sym, refl, ap, ◌∙◌, subst, inl, inr, le_trans, le_of_eq, lt_irrefl, mul-le-mul_right}
use Rattle.std.proofs.Common.{suc-mul, add-mul, mul-pos, one-mul, zero-mul, arith, lit<, ltb→lt, pow_pos}
use mathlib.Core.Bool.{false≢true}
use lib.Ieee.{Float, nan, inf, fin, binary64, low, up, down, round, sum, add, neg, lt, fits, to_bits, of_bits}
use lib.Ieee.Bits.{of_bits-to_bits}
use lib.Ieee.Fits.{down_pos, round-fits, neg-fits}
use Rattle.interval.specs.Pattern.{magnitude}
use Rattle.interval.specs.Scalar.{zero64}
use Rattle.interval.specs.Step.{next_up}
use Rattle.interval.proofs.Rounding.{NonNegative, round_nonneg, at, at_ge, le_or_lt}
use Rattle.interval.proofs.Rank.{neg_round}
use Rattle.interval.proofs.Outward.{positive_fits, zero_bits}
use Rattle.interval.proofs.Order.{left, right}
use Rattle.interval.proofs.Enclosure.Add.{plain_fits}
use Rattle.interval.proofs.Bounds.{Kept, neg_neg, add_turned, plus_zero, zero_plus_zero, minus_zero_not_kept}
use Rattle.interval.proofs.Bounds.{some}

zero_is : (e : ℤ) → T (fits binary64 (fin false zero e)) → fin false zero e ≡ zero64
unfolding of_bits
zero_is e t = sym (of_bits-to_bits binary64 (fin false zero e) t) ∙ ap (of_bits binary64) (zero_bits binary64 e t)

kept_inf : (s : Bool) → Kept (inf s)
unfolding add
kept_inf s = refl

kept_nan : Kept nan
unfolding add
kept_nan = refl

kept_plain : (m : ℕ) (e : ℤ) → T (fits binary64 (fin false m e)) → Kept (fin false m e)
kept_plain zero e t = zero_plus_zero false e ∙ sym (zero_is e t)
kept_plain (suc m) e t = plus_zero false m e t

-- ---- x + 0
-- what holds of every float and itself, and of -0 and +0, holds of x and x + 0
plus_zero_any : (A : Float → Float → Type 0) → ((x : Float) → A x x)
    → ((e : ℤ) → T (fits binary64 (fin true zero e)) → A (fin true zero e) zero64) → (x : Float) → T (fits binary64 x)
    → A x (add binary64 x zero64)
plus_zero_any A r z nan t = subst (A nan) (sym kept_nan) (r nan)
plus_zero_any A r z (inf s) t = subst (A (inf s)) (sym (kept_inf s)) (r (inf s))
plus_zero_any A r z (fin true zero e) t = subst (A (fin true zero e)) (sym (zero_plus_zero true e)) (z e t)
plus_zero_any A r z (fin false zero e) t =
    subst (A (fin false zero e)) (sym (kept_plain zero e t)) (r (fin false zero e))
plus_zero_any A r z (fin s (suc m) e) t = subst (A (fin s (suc m) e)) (sym (plus_zero s m e t)) (r (fin s (suc m) e))

pub plus_zero_kept : (x : Float) → T (fits binary64 x) → Kept (add binary64 x zero64)
plus_zero_kept nan t = subst Kept (sym kept_nan) kept_nan
plus_zero_kept (inf s) t = subst Kept (sym (kept_inf s)) (kept_inf s)
plus_zero_kept (fin s zero e) t = subst Kept (sym (zero_plus_zero s e)) (zero_plus_zero false (pos 0))
plus_zero_kept (fin s (suc m) e) t = let k = plus_zero s m e t in subst Kept (sym k) k

pub next_plus_zero : (x : Float) → T (fits binary64 x) → next_up (add binary64 x zero64) ≡ next_up x
unfolding next_up
next_plus_zero = plus_zero_any (λ x y. next_up y ≡ next_up x) (λ x. refl) (λ e t. refl)

pub above_plus_zero : (x : Float) → T (fits binary64 x) → lt (inf true) (add binary64 x zero64) ≡ lt (inf true) x
unfolding lt
above_plus_zero = plus_zero_any (λ x y. lt (inf true) y ≡ lt (inf true) x) (λ x. refl) (λ e t. refl)

turned_plus_zero : (x : Float) → T (fits binary64 x) → next_up (neg (add binary64 x zero64)) ≡ next_up (neg x)
unfolding next_up neg
turned_plus_zero = plus_zero_any (λ x y. next_up (neg y) ≡ next_up (neg x)) (λ x. refl) (λ e t. refl)

-- a sum steps up to the same float with -0 made +0 in the second term
pub next_sum : (a b : Float) → T (fits binary64 a) → T (fits binary64 b)
    → next_up (add binary64 a (add binary64 b zero64)) ≡ next_up (add binary64 a b)
next_sum a b t = plus_zero_any (λ x y. next_up (add binary64 a y) ≡ next_up (add binary64 a x)) (λ x. refl) minus_zero b
  where
    minus_zero : (e : ℤ) → T (fits binary64 (fin true zero e))
        → next_up (add binary64 a zero64) ≡ next_up (add binary64 a (fin true zero e))
    minus_zero e u =
        next_plus_zero a t ∙ ap next_up (sym (neg_neg a)) ∙ sym (turned_plus_zero (neg a) (neg-fits binary64 a t))
        ∙ ap (λ (z : Float). next_up (neg (add binary64 (neg a) z))) (sym (zero_is e (positive_fits zero e u)))
        ∙ sym (add_turned (neg a) (fin false zero e))
        ∙ ap (λ (z : Float). next_up (add binary64 z (neg (fin false zero e)))) (neg_neg a)
        ∙ ap (λ (z : Float). next_up (add binary64 a z)) (unfold neg in refl)

-- ---- a sum is -0 only where both terms are
nonneg_kept : (v : Float) → T (fits binary64 v) → NonNegative v → Kept v
unfolding NonNegative
nonneg_kept v t (inl e) = subst Kept (sym e) (kept_inf false)
nonneg_kept v t (inr w) = subst (λ (z : Float). T (fits binary64 z) → Kept z) (sym w.2) (kept_plain w.0 w.1) t

negative_kept : (v : Float) → T (fits binary64 v) → NonNegative v → 1 ≤ to_bits binary64 v → Kept (neg v)
unfolding NonNegative neg
negative_kept v t (inl e) b = subst (λ (z : Float). Kept (neg z)) (sym e) (kept_inf true)
negative_kept v t (inr w) b = subst (λ (z : Float). T (fits binary64 z) → 1 ≤ to_bits binary64 z → Kept (neg z))
    (sym w.2) (go w.0 w.1) t b
  where
    go : (m : ℕ) (e : ℤ) → T (fits binary64 (fin false m e)) → 1 ≤ to_bits binary64 (fin false m e)
        → Kept (fin true m e)
    go zero e t b = absurd (lt_irrefl 0 (subst (λ (z : ℕ). 1 ≤ z) (zero_bits binary64 e t) b))
    go (suc m) e t b = plus_zero true m e (neg-fits binary64 (fin false (suc m) e) t)

round_plain : (a c : ℕ) → Kept (round binary64 false a c)
round_plain a c = nonneg_kept (round binary64 false a c) (round-fits binary64 false a c) (round_nonneg binary64 a c)

-- what is at least one unit does not round to 0
round_some : (a c : ℕ) → 0 < c → c ≤ a * 2 ^ low binary64 → Kept (round binary64 true a c)
unfolding at magnitude
round_some a c C h =
    let one : magnitude binary64 1 * c ≡ c = one-mul c in
    subst Kept (sym (neg_round binary64 a c))
    (negative_kept (round binary64 false a c) (round-fits binary64 false a c) (round_nonneg binary64 a c)
    (at_ge binary64 a c 1 C (lit< tt) (le_trans (le_of_eq one) h)))

-- two whole numbers of units u and v over the denominator c differ by a unit or more
gap : (a b u v l c : ℕ) → a * l ≡ u * c → b * l ≡ v * c → a < b → 0 < l → c ≤ (b - a) * l
gap a b u v l c p q h L =
    let split : (b - a) * l + a * l ≡ b * l = sym (add-mul (b - a) a l) ∙ ap (λ (z : ℕ). z * l) (omega arith) in
    let more : a * l + l ≤ b * l = le_trans (le_of_eq (omega (arith, suc-mul a l))) (mul-le-mul_right l h) in
    elim (le_or_lt v u) [
      | inl k ↦ absurd (lt_irrefl (a * l) (omega (arith, mul-le-mul_right c k)))
      | inr k ↦ omega (arith, suc-mul u c, mul-le-mul_right c k)
    ]

-- the second term is not -0
signs_kept : (s : Bool) (a : ℕ) (t : Bool) (b u v c : ℕ) → 0 < c → a * 2 ^ low binary64 ≡ u * c
    → b * 2 ^ low binary64 ≡ v * c → (t ≡ true → 0 < b) → Kept (sum binary64 s a t b c)
unfolding sum
signs_kept false a false b u v c C p q k = round_plain (a + b) c
signs_kept true a true b u v c C p q k =
    let l = 2 ^ low binary64 in
    round_some (a + b) c C (le_trans (gap 0 b 0 v l c (zero-mul l ∙ sym (zero-mul c)) q (k refl)
    (pow_pos (low binary64))) (mul-le-mul_right l (omega arith)))
signs_kept false a true b u v c C p q k = go (ltb a b) (ltb→lt a b)
  where
    go : (x : Bool) → (T x → a < b) → Kept (cond x (round binary64 true (b - a) c) (round binary64 false (a - b) c))
    go true h = round_some (b - a) c C (gap a b u v (2 ^ low binary64) c p q (h tt) (pow_pos (low binary64)))
    go false h = round_plain (a - b) c
signs_kept true a false b u v c C p q k = go (ltb a b) (ltb b a) (ltb→lt b a)
  where
    go : (x y : Bool) → (T y → b < a)
        → Kept (cond x (round binary64 false (b - a) c) (round binary64 (true && y) (a - b) c))
    go true y h = round_plain (b - a) c
    go false true h = round_some (a - b) c C (gap b a v u (2 ^ low binary64) c q p (h tt) (pow_pos (low binary64)))
    go false false h = round_plain (a - b) c

pub sum_kept : (a b : Float) → T (fits binary64 a) → T (fits binary64 b) → Kept b → Kept (add binary64 a b)
unfolding add
sum_kept nan b t u k = kept_nan
sum_kept (inf s) nan t u k = kept_nan
sum_kept (inf true) (inf true) t u k = kept_inf true
sum_kept (inf true) (inf false) t u k = kept_nan
sum_kept (inf false) (inf true) t u k = kept_nan
sum_kept (inf false) (inf false) t u k = kept_inf false
sum_kept (inf s) (fin r n d) t u k = kept_inf s
sum_kept (fin s m e) nan t u k = kept_nan
sum_kept (fin s m e) (inf r) t u k = kept_inf r
sum_kept (fin s m e) (fin r n d) t u k =
    signs_kept s (m * up e * down d) r (n * up d * down e) _ _ (down e * down d) (mul-pos (down_pos e) (down_pos d))
    (left m e n d (plain_fits s m e t) (plain_fits r n d u))
    (right m e n d (plain_fits s m e t) (plain_fits r n d u)) (above r n k)
  where
    above : (r : Bool) (n : ℕ) → Kept (fin r n d) → r ≡ true → 0 < n * up d * down e
    above true zero k h = absurd (minus_zero_not_kept d k)
    above false n k h = absurd (false≢true h)
    above true (suc n) k h = mul-pos (some n d) (down_pos e)
