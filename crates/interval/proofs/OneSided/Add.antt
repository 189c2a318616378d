-- A sum holds the sums end by end: a sum with an infinite end is that infinity, and one of finite ends is rounded once
-- and stepped outward.
use Rattle.std.proofs.Common.{◌≡◌, ℕ, ◌+◌, ◌-◌, ◌*◌, ◌^◌, ◌<◌, ◌≤◌, Bool, true, false, cond, not, ◌&&◌, T, ltb, ◌⊎◌, ℤ}
use Rattle.std.proofs.Common.{◌+ℤ◌, ◌-ℤ◌, neg_ℤ, sym, refl, ap, ◌∙◌, subst, inl, inr, add-mul, lt_of_mul-lt-mul_right}
use Rattle.std.proofs.Common.{mul-lt-mul_of_pos_right, mul-one, arith, pow_pos}
use mathlib.Core.Bool.{beq}
use lib.Ieee.{Float, inf, fin, binary64, low, up, down, round, sum, add, fits, is_nan}
use lib.Ieee.Fits.{add-fits}
use lib.Ieee.Scale.{finite}
use Rattle.interval.specs.declared.Scalar.{Scalar}
use Rattle.interval.specs.Enclosure.{units_of, Fits}
use Rattle.interval.specs.OneSided.{LowerBound, UpperBound, Within}
use Rattle.interval.specs.Pattern.{inf_bits}
use Rattle.interval.specs.Scalar.{add_of, sub_of, neg_of}
use Rattle.interval.specs.Step.{next_up, next_down}
use Rattle.interval.proofs.Rank.{rank_of, none_at, le_or_lt}
use Rattle.interval.proofs.Outward.{up_fits, down_fits, up_rank, down_rank}
use Rattle.interval.proofs.Integers.{P, N}
use Rattle.interval.proofs.Order.{Number}
use Rattle.interval.proofs.Enclosure.Add.{add_rounds, scaled_le, add_under, add_over}
use Rattle.interval.proofs.Product.{round_number}
use Rattle.interval.proofs.Enclosure.Neg.{sub_is}
use Rattle.interval.proofs.Infinite.{Zero, zero_at}
use Rattle.interval.proofs.OneSided.Ends.{step_up, step_down, stays_up, stays_down}
use Rattle.interval.proofs.OneSided.Neg.{neg_within, neg_ends_fit}

-- ---- infinite ends
same : (s : Bool) → add binary64 (inf s) (inf s) ≡ inf s
unfolding add
same true = refl
same false = refl

first : (s : Bool) (y : Float) → T (finite y) → add binary64 (inf s) y ≡ inf s
unfolding add
first s (fin t n d) h = refl
first s lib.Ieee.nan h = elim h [ ]
first s (inf _) h = elim h [ ]

second : (s : Bool) (x : Float) → T (finite x) → add binary64 x (inf s) ≡ inf s
unfolding add
second s (fin t n d) h = refl
second s lib.Ieee.nan h = elim h [ ]
second s (inf _) h = elim h [ ]

-- two ends of one side: their sum is the infinity of that side, or both are finite
pub sum_kinds : (s : Bool) {A B : Type 0} (x y : Float) → (x ≡ inf s) ⊎ (T (finite x) × A)
    → (y ≡ inf s) ⊎ (T (finite y) × B) → (add binary64 x y ≡ inf s) ⊎ ((T (finite x) × A) × (T (finite y) × B))
sum_kinds s x y (inl e) (inl d) = inl (ap (λ (z : Float). add binary64 z y) e ∙ ap (add binary64 (inf s)) d ∙ same s)
sum_kinds s x y (inl e) (inr b) = inl (ap (λ (z : Float). add binary64 z y) e ∙ first s y b.0)
sum_kinds s x y (inr a) (inl d) = inl (ap (add binary64 x) d ∙ second s x a.0)
sum_kinds s x y (inr a) (inr b) = inr (a, b)

-- ---- finite ends
pub add_number : (x y : Float) → T (finite x) → T (finite y) → Number (add binary64 x y)
unfolding add sum
add_number (fin s m e) (fin t n d) hx hy = (
  add-fits binary64 (fin s m e) (fin t n d),
  go s t (m * up e * down d) (n * up d * down e) (down e * down d) (beq s t)
      (ltb (m * up e * down d) (n * up d * down e)),
)
  where
    go : (s t : Bool) (a b c : ℕ) (x y : Bool) → T (not (is_nan (cond x (round binary64 s (a + b) c)
        (cond y (round binary64 t (b - a) c) (round binary64 (s && ltb b a) (a - b) c)))))
    go s t a b c true y = round_number binary64 s (a + b) c
    go s t a b c false true = round_number binary64 t (b - a) c
    go s t a b c false false = round_number binary64 (s && ltb b a) (a - b) c
add_number lib.Ieee.nan y hx hy = elim hx [ ]
add_number (inf _) y hx hy = elim hx [ ]
add_number (fin s m e) lib.Ieee.nan hx hy = elim hy [ ]
add_number (fin s m e) (inf _) hx hy = elim hy [ ]

pub add_low : (x y : Float) (p q : ℤ) (c : ℕ) → T (fits binary64 x) → T (fits binary64 y) → LowerBound x p c
    → LowerBound y q c → LowerBound (next_down (add binary64 x y)) (p +ℤ q) c
add_low x y p q c tx ty a b = elim (sum_kinds true x y a b) [
  | inl e ↦ inl (ap next_down e ∙ stays_down)
  | inr w ↦ step_down (add binary64 x y) (add_number x y w.0.0 w.1.0)
      (λ h. add_under x y p q c tx w.0.0 ty w.1.0 h w.0.1 w.1.1)
]

pub add_high : (x y : Float) (p q : ℤ) (c : ℕ) → T (fits binary64 x) → T (fits binary64 y) → UpperBound x p c
    → UpperBound y q c → UpperBound (next_up (add binary64 x y)) (p +ℤ q) c
add_high x y p q c tx ty a b = elim (sum_kinds false x y a b) [
  | inl e ↦ inl (ap next_up e ∙ stays_up)
  | inr w ↦ step_up (add binary64 x y) (add_number x y w.0.0 w.1.0)
      (λ h. add_over x y p q c tx w.0.0 ty w.1.0 h w.0.1 w.1.1)
]

pub add_within : (x y : Scalar) (p q : ℤ) (c : ℕ) → Fits x → Fits y → Within x p c → Within y q c
    → Within (add_of x y) (p +ℤ q) c
add_within x y p q c tx ty a b = record {
  low_end = add_low x.lo y.lo p q c tx.0 ty.0 a.low_end b.low_end;
  high_end = add_high x.hi y.hi p q c tx.1 ty.1 a.high_end b.high_end;
}

pub sub_within : (x y : Scalar) (p q : ℤ) (c : ℕ) → Fits x → Fits y → Within x p c → Within y q c
    → Within (sub_of x y) (p -ℤ q) c
sub_within x y p q c tx ty a b = subst (λ (r : Scalar). Within r (p -ℤ q) c) (sym (sub_is x y))
    (add_within x (neg_of y) p (neg_ℤ q) c tx (neg_ends_fit y ty) a (neg_within y q c b))

-- ---- a sum is never [±0, ±0]: a lower end 0 was stepped down from a sum above 0, an upper end 0 up from one below 0
above_none : (p q c : ℕ) → 0 < c → inf_bits binary64 < rank_of binary64 p q c → q < p
above_none p q c C h =
    elim (le_or_lt p q) [ inl g ↦ absurd (omega (arith, none_at binary64 (p - q) c C (omega arith))) | inr g ↦ g ]

below_none : (p q c : ℕ) → 0 < c → rank_of binary64 p q c < inf_bits binary64 → p < q
below_none p q c C h =
    elim (le_or_lt q p) [ inl g ↦ absurd (omega (arith, none_at binary64 (q - p) c C (omega arith))) | inr g ↦ g ]

strict : (a b l p q c : ℕ) → 0 < l → b < a → a * l * 1 ≡ p * c → b * l * 1 ≡ q * c → q < p
strict a b l p q c L h x y =
    let k : b * l < a * l = mul-lt-mul_of_pos_right h L in
    lt_of_mul-lt-mul_right c (omega (arith, mul-one (a * l), mul-one (b * l)))

-- x + y is above 0, x ≤ p and y ≤ q: then p + q is above 0. Each is a difference, x and y over l, p and q over c
carried : (x x' y y' p p' q q' c l : ℕ) → 0 < c → x' + y' < x + y → x * c + p' * l ≤ p * l + x' * c
    → y * c + q' * l ≤ q * l + y' * c → p' + q' < p + q
carried x x' y y' p p' q q' c l C h a b =
    let k : (x' + y') * c < (x + y) * c = mul-lt-mul_of_pos_right h C in
    lt_of_mul-lt-mul_right l (omega (arith, add-mul x' y' c, add-mul x y c, add-mul p' q' l, add-mul p q l))

no_zero : (s : Bool) (x : Float) → x ≡ inf s → Zero x → ⊥
no_zero s x e z = subst (λ (w : Float). T (finite w)) (sym z.2 ∙ e) tt

low_zero : (x y : Float) (p q : ℤ) (c : ℕ) → 0 < c → T (fits binary64 x) → T (fits binary64 y) → LowerBound x p c
    → LowerBound y q c → Zero (next_down (add binary64 x y)) → N p + N q < P p + P q
low_zero x y p q c C tx ty a b z = elim (sum_kinds true x y a b) [
  | inl e ↦ absurd (no_zero true (next_down (add binary64 x y)) (ap next_down e ∙ stays_down) z)
  | inr g ↦
      let v = add binary64 x y in
      let l = 2 ^ low binary64 in
      let r = add_rounds x y tx g.0.0 ty g.1.0 in
      let w = zero_at (next_down v) (down_fits v) z in
      let h : inf_bits binary64 < rank_of binary64 r.num_p r.num_q r.den =
      subst (λ (k : ℕ). inf_bits binary64 < k) r.at_rank (omega (arith, down_rank v r.is_float w.0, w.1)) in
      carried _ _ _ _ (P p) (N p) (P q) (N q) c l C (strict r.num_p r.num_q l _ _ r.den
      (pow_pos (low binary64)) (above_none r.num_p r.num_q r.den r.den_pos h) r.is_p r.is_q)
      (scaled_le (units_of binary64 x) p c l g.0.1) (scaled_le (units_of binary64 y) q c l g.1.1)
]

high_zero : (x y : Float) (p q : ℤ) (c : ℕ) → 0 < c → T (fits binary64 x) → T (fits binary64 y) → UpperBound x p c
    → UpperBound y q c → Zero (next_up (add binary64 x y)) → P p + P q < N p + N q
high_zero x y p q c C tx ty a b z = elim (sum_kinds false x y a b) [
  | inl e ↦ absurd (no_zero false (next_up (add binary64 x y)) (ap next_up e ∙ stays_up) z)
  | inr g ↦
      let v = add binary64 x y in
      let l = 2 ^ low binary64 in
      let r = add_rounds x y tx g.0.0 ty g.1.0 in
      let w = zero_at (next_up v) (up_fits v) z in
      let h : rank_of binary64 r.num_p r.num_q r.den < inf_bits binary64 =
      subst (λ (k : ℕ). k < inf_bits binary64) r.at_rank (omega (arith, up_rank v r.is_float w.0, w.1)) in
      carried _ _ _ _ (N p) (P p) (N q) (P q) c l C (strict r.num_q r.num_p l _ _ r.den
      (pow_pos (low binary64)) (below_none r.num_p r.num_q r.den r.den_pos h) r.is_q r.is_p)
      (turned _ _ _ _ (scaled_le p (units_of binary64 x) l c g.0.1))
      (turned _ _ _ _ (scaled_le q (units_of binary64 y) l c g.1.1))
]
  where
    turned : (a b c d : ℕ) → a + b ≤ c + d → b + a ≤ d + c
    turned a b c d h = omega arith

pub sum_stepped : (x y : Scalar) (p q : ℤ) (c : ℕ) → 0 < c → Fits x → Fits y → Within x p c → Within y q c
    → Zero (add_of x y).lo → Zero (add_of x y).hi → ⊥
sum_stepped x y p q c C tx ty a b u v =
    omega (
      arith,
      low_zero x.lo y.lo p q c C tx.0 ty.0 a.low_end b.low_end u,
      high_zero x.hi y.hi p q c C tx.1 ty.1 a.high_end b.high_end v,
    )

pub sub_stepped : (x y : Scalar) (p q : ℤ) (c : ℕ) → 0 < c → Fits x → Fits y → Within x p c → Within y q c
    → Zero (sub_of x y).lo → Zero (sub_of x y).hi → ⊥
sub_stepped x y p q c C tx ty a b = subst (λ (r : Scalar). Zero r.lo → Zero r.hi → ⊥) (sym (sub_is x y))
    (sum_stepped x (neg_of y) p (neg_ℤ q) c C tx (neg_ends_fit y ty) a (neg_within y q c b))
