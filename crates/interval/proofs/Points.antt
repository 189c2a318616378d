-- The product of two points: equal floats are the same or both zeros, so the four products of the ends are the same or
-- all zeros, and the first is the greatest and the least of them.
use Rattle.std.proofs.Common.{◌≡◌, ℕ, zero, suc, ◌*◌, ◌<◌, Bool, true, false, cond, not, ◌&&◌, ◌||◌, T, eqb, ltb, ◌⊎◌}
use Rattle.std.proofs.Common.{ℤ, sym, refl, ap, ◌∙◌, subst, inl, inr, true≢false, le_refl, lt_irrefl, zero-lt-suc}
use Rattle.std.proofs.Common.{mul-pos, zero-mul, eqb→eq}
use mathlib.Core.Bool.{beq, false≢true}
use lib.Arith.{le→nltb}
use lib.Ieee.{Float, nan, inf, fin, binary64, up, down, round, mul, neg, unlike, below, level, lt, eq, fits}
use lib.Ieee.Bits.{is_false}
use lib.Ieee.Fits.{down_pos, up_pos}
use Rattle.interval.specs.declared.Scalar.{Scalar}
use Rattle.interval.specs.Float.{greater, least, greatest}
use Rattle.interval.specs.Scalar.{zero64, mul_of}
use Rattle.interval.specs.Step.{next_up}
use Rattle.interval.proofs.Enclosure.Add.{plain_fits}
use Rattle.interval.proofs.MinMax.{greatest_is}
use Rattle.interval.proofs.Infinite.{Zero, neg_neg}
use Rattle.interval.proofs.Bounds.{round_back, round_none, greatest_turned}
use Rattle.interval.proofs.OneSided.Mul.{times_comm, round_not}

-- ---- equal floats
abbrev pub Same : Float → Float → Type 0
Same a b = (a ≡ b) ⊎ (Zero a × Zero b)

size_same : (m : ℕ) (e : ℤ) (n : ℕ) (d : ℤ) → T (fits binary64 (fin false m e)) → T (fits binary64 (fin false n d))
    → m * up e * down d ≡ n * up d * down e → fin false m e ≡ fin false n d
size_same m e n d t u h = sym (round_back m e (n * up d) (down d) t (down_pos d) (sym h))
    ∙ round_back n d (n * up d) (down d) u (down_pos d) refl

sign_same : (s : Bool) (m : ℕ) (e : ℤ) (n : ℕ) (d : ℤ) → fin false m e ≡ fin false n d → fin s m e ≡ fin s n d
unfolding neg
sign_same false m e n d h = h
sign_same true m e n d h = ap neg h

none : (s : Bool) (m : ℕ) (e d : ℤ) → m * up e * down d ≡ 0 → Zero (fin s m e)
none s zero e d h = (s, e, refl)
none s (suc m) e d h =
    absurd (lt_irrefl 0 (subst (λ (z : ℕ). 0 < z) h (mul-pos (mul-pos (zero-lt-suc m) (up_pos e)) (down_pos d))))

level_same : (s : Bool) (m : ℕ) (e : ℤ) (t : Bool) (n : ℕ) (d : ℤ) → T (fits binary64 (fin s m e))
    → T (fits binary64 (fin t n d)) → level s (m * up e * down d) t (n * up d * down e) ≡ true
    → Same (fin s m e) (fin t n d)
level_same s m e t n d fx fy h = go s t (eqb A B) (eqb A 0) (eqb→eq A B) (eqb→eq A 0) h
  where
    A : ℕ
    A = m * up e * down d

    B : ℕ
    B = n * up d * down e

    go : (s t x y : Bool) → (T x → m * up e * down d ≡ n * up d * down e) → (T y → m * up e * down d ≡ 0)
        → (x && (beq s t || y)) ≡ true → Same (fin s m e) (fin t n d)
    go s t false y p q h = absurd (false≢true h)
    go s t true true p q h = inr (none s m e d (q tt), none t n d e (sym (p tt) ∙ q tt))
    go true true true false p q h =
        inl (sign_same true m e n d (size_same m e n d (plain_fits _ m e fx) (plain_fits _ n d fy) (p tt)))
    go false false true false p q h = inl (size_same m e n d (plain_fits _ m e fx) (plain_fits _ n d fy) (p tt))
    go true false true false p q h = absurd (false≢true h)
    go false true true false p q h = absurd (false≢true h)

pub eq_same : (a b : Float) → T (fits binary64 a) → T (fits binary64 b) → T (eq a b) → Same a b
unfolding eq
eq_same nan b t u h = absurd h
eq_same (inf s) nan t u h = absurd h
eq_same (inf true) (inf true) t u h = inl refl
eq_same (inf false) (inf false) t u h = inl refl
eq_same (inf true) (inf false) t u h = absurd h
eq_same (inf false) (inf true) t u h = absurd h
eq_same (inf s) (fin r n d) t u h = absurd h
eq_same (fin s m e) nan t u h = absurd h
eq_same (fin s m e) (inf r) t u h = absurd h
eq_same (fin s m e) (fin r n d) t u h = level_same s m e r n d t u (truth _ h)
  where
    truth : (b : Bool) → T b → b ≡ true
    truth true h = refl
    truth false h = elim h [ ]

-- ---- their signs turned, and their products
pub neg_same : (a b : Float) → Same a b → Same (neg a) (neg b)
unfolding neg
neg_same a b (inl h) = inl (ap neg h)
neg_same a b (inr w) = inr (turned a w.0, turned b w.1)
  where
    turned : (a : Float) → Zero a → Zero (neg a)
    turned a w = (not w.0, w.1, ap neg w.2)

zero_times_finite : (s : Bool) (e : ℤ) (t : Bool) (n : ℕ) (d : ℤ) → Zero (mul binary64 (fin s zero e) (fin t n d))
unfolding mul neg
zero_times_finite s e t n d = go (unlike s t) (round_none (0 * up e * (n * up d)) (down e * down d)
    (mul-pos (down_pos e) (down_pos d)) (ap (λ (z : ℕ). z * (n * up d)) (zero-mul (up e)) ∙ zero-mul (n * up d)))
  where
    go : (b : Bool) → round binary64 false (0 * up e * (n * up d)) (down e * down d) ≡ zero64
        → Zero (round binary64 b (0 * up e * (n * up d)) (down e * down d))
    go false h = (false, _, h)
    go true h = (true, _, round_not false (0 * up e * (n * up d)) (down e * down d) ∙ ap neg h)

zero_times : (a b c : Float) → Zero a → Zero b → Same (mul binary64 a c) (mul binary64 b c)
zero_times a b c v w = subst (λ (z : Float). Same (mul binary64 z c) (mul binary64 b c)) (sym v.2)
    (subst (λ (z : Float). Same (mul binary64 (fin v.0 zero v.1) c) (mul binary64 z c)) (sym w.2) (go c))
  where
    go : (c : Float) → Same (mul binary64 (fin v.0 zero v.1) c) (mul binary64 (fin w.0 zero w.1) c)
    go nan = inl (unfold mul in refl)
    go (inf t) = inl (unfold mul in refl)
    go (fin t n d) = inr (zero_times_finite v.0 v.1 t n d, zero_times_finite w.0 w.1 t n d)

times_left : (a b c : Float) → Same a b → Same (mul binary64 a c) (mul binary64 b c)
times_left a b c (inl h) = inl (ap (λ (z : Float). mul binary64 z c) h)
times_left a b c (inr w) = zero_times a b c w.0 w.1

times_right : (a b c : Float) → Same b c → Same (mul binary64 a b) (mul binary64 a c)
times_right a b c h = subst (λ (z : Float). Same z (mul binary64 a c)) (times_comm b a)
    (subst (λ (z : Float). Same (mul binary64 b a) z) (times_comm c a) (times_left b c a h))

same_trans : (a b c : Float) → Same a b → Same b c → Same a c
same_trans a b c (inl h) k = subst (λ (z : Float). Same z c) (sym h) k
same_trans a b c (inr w) (inl h) = inr (w.0, subst Zero h w.1)
same_trans a b c (inr w) (inr v) = inr (w.0, v.1)

-- ---- neither is below the other
level_not_below : (s : Bool) (a : ℕ) → below s a s a ≡ false
level_not_below false a = is_false (ltb a a) (le→nltb a a (le_refl a))
level_not_below true a = is_false (ltb a a) (le→nltb a a (le_refl a))

not_below_itself : (a : Float) → lt a a ≡ false
unfolding lt
not_below_itself nan = refl
not_below_itself (inf true) = refl
not_below_itself (inf false) = refl
not_below_itself (fin s m e) = level_not_below s (m * up e * down e)

zero_not_below : (s : Bool) (e : ℤ) (t : Bool) (d : ℤ) → lt (fin s zero e) (fin t zero d) ≡ false
unfolding lt
zero_not_below s e t d = go s t (ap (λ (z : ℕ). z * down d) (zero-mul (up e)) ∙ zero-mul (down d))
    (ap (λ (z : ℕ). z * down e) (zero-mul (up d)) ∙ zero-mul (down e))
  where
    go : (s t : Bool) {a b : ℕ} → a ≡ 0 → b ≡ 0 → below s a t b ≡ false
    go false false p q = rw (p, q) refl
    go false true p q = refl
    go true false p q = rw (p, q) refl
    go true true p q = rw (p, q) refl

same_not_below : (a b : Float) → Same a b → lt a b ≡ false
same_not_below a b (inl h) = subst (λ (z : Float). lt a z ≡ false) h (not_below_itself a)
same_not_below a b (inr w) = rw (w.0.2, w.1.2) (zero_not_below w.0.0 w.0.1 w.1.0 w.1.1)

low_same : (a b : Float) → Same a b → lt (inf true) a ≡ false → lt (inf true) b ≡ false
unfolding lt
low_same a b (inl e) h = subst (λ (z : Float). lt (inf true) z ≡ false) e h
low_same a b (inr w) h = absurd (true≢false (subst (λ (z : Float). lt (inf true) z ≡ false) w.0.2 h))

-- ---- the greatest of them is the first, and minus infinity where that is a NaN
greater_same : (p q : Float) → Same p q → greater (greater (inf true) p) q ≡ greater (inf true) p
unfolding greater
greater_same p q h = go (lt (inf true) p) (low_same p q h)
  where
    go : (t : Bool) → (t ≡ false → lt (inf true) q ≡ false) → greater (cond t p (inf true)) q ≡ cond t p (inf true)
    go true k = ap (λ (b : Bool). cond b q p) (same_not_below p q h)
    go false k = ap (λ (b : Bool). cond b q (inf true)) (k refl)

greatest_same : (p q r s : Float) → Same p q → Same p r → Same p s → greatest p q r s ≡ greater (inf true) p
greatest_same p q r s hq hr hs =
    greatest_is p q r s
    ∙ ap (λ (z : Float). greater (greater z r) s) (greater_same p q hq)
    ∙ ap (λ (z : Float). greater z s) (greater_same p r hr)
    ∙ greater_same p s hs

-- ---- the bounds of a product of points
module _ (x y : Scalar) (hx : Same x.lo x.hi) (hy : Same y.lo y.hi) where
  abbrev p : Float
  p = mul binary64 x.lo y.lo

  second : Same p (mul binary64 x.lo y.hi)
  second = times_right x.lo y.lo y.hi hy

  third : Same p (mul binary64 x.hi y.lo)
  third = times_left x.lo x.hi y.lo hx

  fourth : Same p (mul binary64 x.hi y.hi)
  fourth = same_trans p (mul binary64 x.hi y.lo) (mul binary64 x.hi y.hi) third
      (times_right x.hi y.lo y.hi hy)

  pub point_above : next_up (greater (inf true) (mul binary64 x.lo y.lo)) ≡ (mul_of x y).hi
  point_above = ap next_up (sym (greatest_same p _ _ _ second third fourth))

  pub point_below : next_up (greater (inf true) (neg (mul binary64 x.lo y.lo))) ≡ neg (mul_of x y).lo
  point_below =
      ap next_up (sym (greatest_same (neg p) _ _ _ (neg_same p _ second) (neg_same p _ third) (neg_same p _ fourth))
      ∙ greatest_turned p (mul binary64 x.lo y.hi) (mul binary64 x.hi y.lo) (mul binary64 x.hi y.hi))
      ∙ sym (neg_neg (next_up
      (neg (least p (mul binary64 x.lo y.hi) (mul binary64 x.hi y.lo) (mul binary64 x.hi y.hi)))))
