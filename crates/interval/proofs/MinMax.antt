-- Rust's min, max and abs against the plain choices by `lt`: where the first number is no NaN, min and max are those
-- choices, so a fold that starts from an infinity is one of plain choices.
use Rattle.std.proofs.Common.{◌≡◌, ℕ, zero, suc, ◌+◌, ◌*◌, ◌<◌, Bool, true, false, cond, not, ◌||◌, T, ltb, ◌⊎◌, ℤ, sym}
use Rattle.std.proofs.Common.{refl, ap, ◌∙◌, subst, inl, inr, true≢false, zero-lt-suc, mul-pos, arith, lt→ltb}
use lib.Ieee.{Float, nan, inf, fin, up, down, neg, lt, le, eq, ne, is_nan}
use lib.Ieee.Bits.{is_true}
use lib.Ieee.Compare.{differs_from_itself}
use lib.Ieee.Fits.{up_pos}
use Rattle.interval.specs.declared.Scalar.{Scalar}
use Rattle.interval.specs.Float.{lesser, greater, fmin, fmax, fabs, least, greatest}
use Rattle.interval.specs.Scalar.{zero64, pick, abs_of, neg_of}
use Rattle.interval.proofs.NextUp.{below_zero}
use Rattle.interval.proofs.Tests.{zero_eq}

-- ---- a comparison that holds is one of numbers
pub lt_first : (x y : Float) → T (lt x y) → T (not (is_nan x))
unfolding lt is_nan
lt_first nan y h = h
lt_first (inf s) y h = tt
lt_first (fin s m e) y h = tt

pub lt_second : (x y : Float) → T (lt x y) → T (not (is_nan y))
unfolding lt is_nan
lt_second nan y h = absurd h
lt_second (inf s) nan h = h
lt_second (inf s) (inf t) h = tt
lt_second (inf s) (fin t n d) h = tt
lt_second (fin s m e) nan h = h
lt_second (fin s m e) (inf t) h = tt
lt_second (fin s m e) (fin t n d) h = tt

pub lesser_number : (a b : Float) → T (not (is_nan a)) → T (not (is_nan (lesser a b)))
unfolding lesser
lesser_number a b h = go (lt b a) (lt_first b a)
  where
    go : (t : Bool) → (T t → T (not (is_nan b))) → T (not (is_nan (cond t b a)))
    go true k = k tt
    go false k = h

pub greater_number : (a b : Float) → T (not (is_nan a)) → T (not (is_nan (greater a b)))
unfolding greater
greater_number a b h = go (lt a b) (lt_second a b)
  where
    go : (t : Bool) → (T t → T (not (is_nan b))) → T (not (is_nan (cond t b a)))
    go true k = k tt
    go false k = h

-- ---- min and max of a number
same_itself : (a : Float) → T (not (is_nan a)) → ne a a ≡ false
unfolding is_nan
same_itself a h = go (ne a a) (differs_from_itself a)
  where
    no : (x : Float) → T (not (is_nan x)) → x ≡ nan → ⊥
    no x k e = subst (λ (z : Float). T (not (is_nan z))) e k

    go : (t : Bool) → (T t → a ≡ nan) → t ≡ false
    go true k = absurd (no a h (k tt))
    go false k = refl

pub fmin_number : (a b : Float) → T (not (is_nan a)) → fmin a b ≡ lesser a b
unfolding fmin
fmin_number a b h = ap (λ (t : Bool). cond t b (lesser a b)) (same_itself a h)

pub fmax_number : (a b : Float) → T (not (is_nan a)) → fmax a b ≡ greater a b
unfolding fmax
fmax_number a b h = ap (λ (t : Bool). cond t b (greater a b)) (same_itself a h)

pub inf_number : (s : Bool) → T (not (is_nan (inf s)))
unfolding is_nan
inf_number s = tt

-- a fold of four from a number, by two choices that agree there
fold : (f g : Float → Float → Float) → ((a b : Float) → T (not (is_nan a)) → f a b ≡ g a b)
    → ((a b : Float) → T (not (is_nan a)) → T (not (is_nan (g a b))))
    → (o p q r s : Float) → T (not (is_nan o)) → f (f (f (f o p) q) r) s ≡ g (g (g (g o p) q) r) s
fold f g same kept o p q r s h =
    let n1 = kept o p h in
    let n2 = kept (g o p) q n1 in
    let n3 = kept (g (g o p) q) r n2 in
    ap (λ (z : Float). f (f (f z q) r) s) (same o p h) ∙ ap (λ (z : Float). f (f z r) s) (same (g o p) q n1)
    ∙ ap (λ (z : Float). f z s) (same (g (g o p) q) r n2) ∙ same (g (g (g o p) q) r) s n3

pub least_is : (p q r s : Float) → least p q r s ≡ lesser (lesser (lesser (lesser (inf false) p) q) r) s
unfolding least
least_is p q r s = fold fmin lesser fmin_number lesser_number (inf false) p q r s (inf_number false)

pub greatest_is : (p q r s : Float) → greatest p q r s ≡ greater (greater (greater (greater (inf true) p) q) r) s
unfolding greatest
greatest_is p q r s = fold fmax greater fmax_number greater_number (inf true) p q r s (inf_number true)

-- ---- what holds of both numbers holds of the one chosen
pub either : (a b : Float) (A : Float → Type 0) → A a → A b → A (greater a b)
unfolding greater
either a b A p q = go (lt a b)
  where
    go : (t : Bool) → A (cond t b a)
    go true = q
    go false = p

pub either_lesser : (a b : Float) (A : Float → Type 0) → A a → A b → A (lesser a b)
unfolding lesser
either_lesser a b A p q = go (lt b a)
  where
    go : (t : Bool) → A (cond t b a)
    go true = q
    go false = p

pub either_min : (a b : Float) (A : Float → Type 0) → A a → A b → A (fmin a b)
unfolding fmin
either_min a b A p q = go (ne a a)
  where
    go : (s : Bool) → A (cond s b (lesser a b))
    go true = q
    go false = either_lesser a b A p q

pub either_max : (a b : Float) (A : Float → Type 0) → A a → A b → A (fmax a b)
unfolding fmax
either_max a b A p q = go (ne a a)
  where
    go : (s : Bool) → A (cond s b (greater a b))
    go true = q
    go false = either a b A p q

pub either_least : (A : Float → Type 0) (p q r s : Float) → A (inf false) → A p → A q → A r → A s → A (least p q r s)
unfolding least
either_least A p q r s o hp hq hr hs =
    either_min _ s A (either_min _ r A (either_min _ q A (either_min (inf false) p A o hp) hq) hr) hs

pub either_greatest : (A : Float → Type 0) (p q r s : Float) → A (inf true) → A p → A q → A r → A s
    → A (greatest p q r s)
unfolding greatest
either_greatest A p q r s o hp hq hr hs =
    either_max _ s A (either_max _ r A (either_max _ q A (either_max (inf true) p A o hp) hq) hr) hs

-- ---- abs, by the sign
negative_form : (m : ℕ) (e : ℤ)
    → (fin false m e ≡ inf true) ⊎ ((n : ℕ) × (d : ℤ) × (fin false m e ≡ fin true (suc n) d)) → ⊥
negative_form m e (inl q) = subst (λ (z : Float). T (Plain z)) q tt
  where
    Plain : Float → Bool
    Plain nan = false
    Plain (inf s) = false
    Plain (fin s m e) = true
negative_form m e (inr w) = subst (λ (z : Float). T (Plain z)) w.2 tt
  where
    Plain : Float → Bool
    Plain nan = false
    Plain (inf s) = false
    Plain (fin s m e) = not s

fabs_below : (x : Float) → le zero64 x ≡ false → fabs x ≡ neg x
unfolding fabs neg le lt eq
fabs_below nan h = refl
fabs_below (inf true) h = refl
fabs_below (inf false) h = absurd (true≢false h)
fabs_below (fin true m e) h = refl
fabs_below (fin false m e) h = absurd (negative_form m e (below_zero (fin false m e) refl h))

or_second : (a b : Bool) → b ≡ true → (a || b) ≡ true
or_second true b h = refl
or_second false b h = h

fabs_above : (x : Float) → le x zero64 ≡ false → fabs x ≡ x
unfolding fabs le lt eq
fabs_above nan h = refl
fabs_above (inf true) h = absurd (true≢false h)
fabs_above (inf false) h = refl
fabs_above (fin false m e) h = refl
fabs_above (fin true zero e) h = absurd
    (true≢false (sym (or_second (lt (fin true zero e) zero64) (eq (fin true zero e) zero64) (zero_eq true e)) ∙ h))
fabs_above (fin true (suc m) e) h =
    let a : 0 < suc m * up e * 1 + 0 * down e = omega (arith, mul-pos (zero-lt-suc m) (up_pos e)) in
    absurd (true≢false (sym (ap (λ (t : Bool). t || eq (fin true (suc m) e) zero64)
    (is_true (ltb 0 (suc m * up e * 1 + 0 * down e)) (lt→ltb 0 (suc m * up e * 1 + 0 * down e) a))) ∙ h))

-- the absolute value as the program works it out
pub abs_is : (x : Scalar) → abs_of x ≡ pick (le zero64 x.lo) x
    (pick (le x.hi zero64) (neg_of x) (record { lo = zero64; hi = fmax (neg x.lo) x.hi }))
unfolding abs_of
abs_is x = go (le zero64 x.lo) (le x.hi zero64) (fabs_below x.lo) (fabs_above x.hi)
  where
    go : (a b : Bool) → (a ≡ false → fabs x.lo ≡ neg x.lo) → (b ≡ false → fabs x.hi ≡ x.hi)
        → pick a x (pick b (neg_of x) (record { lo = zero64; hi = fmax (fabs x.lo) (fabs x.hi) }))
        ≡ pick a x (pick b (neg_of x) (record { lo = zero64; hi = fmax (neg x.lo) x.hi }))
    go true b k m = refl
    go false true k m = refl
    go false false k m = λ i. record { lo = zero64; hi = fmax (k refl i) (m refl i) }
