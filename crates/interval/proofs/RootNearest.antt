-- The root is the nearest float. Let q be 54 digits of the root: the number is 2 * c * (w * w), where q * q ≤ 2 * c <
-- (q + 1) * (q + 1), and its nearest root is g * (2 * w), where g = (q + 1) / 2.
-- The midpoint above is (2 * g + 1) * w or more, and q + 1 ≤ 2 * g + 1. The midpoint below is (2 * g - 1) * w, and 2 *
-- g - 1 ≤ q; the square of an odd number is not 2 * c, so the order is strict.
-- Only at g = 2 ^ 52, where the spacing halves, is the float below w away, not 2 * w; but there 2 * g ≤ q.
use Rattle.std.proofs.Common.{◌≡◌, ℕ, zero, suc, ◌+◌, ◌-◌, ◌*◌, ◌/◌, ◌%◌, ◌^◌, ◌<◌, ◌≤◌, true, false, T, ℤ, pos, sym}
use Rattle.std.proofs.Common.{refl, ap, ◌∙◌, subst, inl, inr, true≢false, zero-le, le_trans, le_of_eq, le_refl}
use Rattle.std.proofs.Common.{lt_of_lt_of_le, lt_of_le_of_lt, le_of_lt, lt_irrefl, mul-le-mul_right, zero-lt-suc}
use Rattle.std.proofs.Common.{mul_assoc, add-mul, mul-le-mul, eq-or-lt_of_le, mul-le-mul_left, mul-lt-mul_of_pos_right}
use Rattle.std.proofs.Common.{mul-pos, zero-mul, mul-div_cancel, mul_left_comm, arith, le→leb, ltb→lt, lt→ltb, pow_pos}
use native.Mathlib.Nat.{mul-mul-mul_comm}
use native.Mathlib.Nat.{pow-succ'}
use lib.Arith.{lt_of_le-ne}
use lib.Ieee.{Float, nan, inf, fin, binary64, low, up, down, neg, lt, fits, to_bits, of_bits}
use lib.Ieee.Bits.{of_bits-to_bits}
use lib.Ieee.Exact.{HasValue}
use lib.Ieee.Fits.{down_pos}
use lib.Ieee.Scale.{finite}
use Rattle.interval.specs.Enclosure.{units_of}
use Rattle.interval.specs.NearestRoot.{NearestRoot}
use Rattle.interval.specs.Pattern.{inf_bits, magnitude}
use Rattle.interval.specs.Root.{IsRoot, isqrt, rounded_root, nearest_root}
use Rattle.interval.specs.RootSteps.{Decomposed, Normalized, EvenExponent}
use Rattle.interval.specs.Scalar.{zero64}
use Rattle.interval.specs.Step.{next_up, next_down, outer, inner}
use Rattle.interval.proofs.Patterns.{of_bits-val}
use Rattle.interval.proofs.Rounding.{magnitude_lt}
use Rattle.interval.proofs.Rank.{le_or_lt, zero_value}
use Rattle.interval.proofs.Outward.{pattern_bits}
use Rattle.interval.proofs.RootDigits.{isqrt_is, sq, sq_lt, odd_sq, magnitude_root, near_root_bits}
use Rattle.interval.proofs.RootBits.{parts_zero, parts_more, Up, up_start, up_more, up_turn, even_step, lifts_of}
use Rattle.interval.proofs.RootBits.{widen}
use Rattle.interval.proofs.RootCases.{root_above}

-- ---- twice a midpoint is the sum of two neighbours: the squares of such sums
abbrev sum_sq : ℕ → ℕ → ℕ
sum_sq a b = (a + b) * (a + b)

sq_under : (a n w s : ℕ) → 0 < w → a * a < n → s ≤ a * w → s * s < n * (w * w)
sq_under a n w s W h k = lt_of_le_of_lt (le_trans (mul-le-mul k k) (le_of_eq (mul-mul-mul_comm a w a w)))
    (mul-lt-mul_of_pos_right h (mul-pos W W))

sq_over : (a n w s : ℕ) → 0 < w → n < a * a → a * w ≤ s → n * (w * w) < s * s
sq_over a n w s W h k = lt_of_lt_of_le (mul-lt-mul_of_pos_right h (mul-pos W W))
    (le_trans (le_of_eq (sym (mul-mul-mul_comm a w a w))) (mul-le-mul k k))

four : (n w : ℕ) → n * (2 * w * (2 * w)) ≡ 4 * (n * (w * w))
four n w = ap (λ (z : ℕ). n * z) (sq w) ∙ mul_left_comm n 4 (w * w)

-- v is the float above
past : (c q g w v : ℕ) → 0 < w → 2 * c < (q + 1) * (q + 1) → q ≤ 2 * g → (g + 1) * (2 * w) ≤ v
    → 4 * (2 * c * (w * w)) < sum_sq (g * (2 * w)) v
past c q g w v W h k l =
    let a : q + 1 ≤ 2 * g + 1 = omega arith in
    let s : (2 * g + 1) * (2 * w) ≤ g * (2 * w) + v =
    le_trans (le_of_eq (ap (λ (z : ℕ). z * (2 * w)) (omega arith) ∙ add-mul g (g + 1) (2 * w))) (omega arith) in
    lt_of_le_of_lt (le_of_eq (sym (four (2 * c) w)))
    (sq_over (2 * g + 1) (2 * c) (2 * w) (g * (2 * w) + v) (omega arith) (lt_of_lt_of_le h (mul-le-mul a a)) s)

-- the root is p + 1, and the float below is p
short : (c q p w : ℕ) → 0 < w → q * q ≤ 2 * c → 2 * p + 1 ≤ q
    → sum_sq (p * (2 * w)) ((p + 1) * (2 * w)) < 4 * (2 * c * (w * w))
short c q p w W h k =
    let a : (2 * p + 1) * (2 * p + 1) < 2 * c = lt_of_le-ne (le_trans (mul-le-mul k k) h) (odd_sq p c) in
    let s : p * (2 * w) + (p + 1) * (2 * w) ≡ (2 * p + 1) * (2 * w) =
    sym (add-mul p (p + 1) (2 * w)) ∙ ap (λ (z : ℕ). z * (2 * w)) (omega arith) in
    lt_of_lt_of_le (sq_under (2 * p + 1) (2 * c) (2 * w) (p * (2 * w) + (p + 1) * (2 * w)) (omega arith) a (le_of_eq s))
    (le_of_eq (four (2 * c) w))

-- the root is g, and the float below is d, of half the spacing
short_foot : (c g d w : ℕ) → 0 < w → 2 * g * (2 * g) ≤ 2 * c → d + 1 ≡ 2 * g
    → sum_sq (d * w) (g * (2 * w)) < 4 * (2 * c * (w * w))
short_foot c g d w W h k =
    let a : d + 2 * g < 2 * (2 * g) = omega arith in
    let b : (d + 2 * g) * (d + 2 * g) < 2 * (2 * g) * (2 * (2 * g)) =
    lt_of_le_of_lt (mul-le-mul (le_refl (d + 2 * g)) (le_of_lt a)) (mul-lt-mul_of_pos_right a (omega arith)) in
    let n : 2 * (2 * g) * (2 * (2 * g)) ≤ 4 * (2 * c) = le_trans (le_of_eq (sq (2 * g))) (mul-le-mul_left 4 h) in
    let s : d * w + g * (2 * w) ≡ (d + 2 * g) * w =
    ap (λ (z : ℕ). d * w + z) (mul_left_comm g 2 w ∙ sym (mul_assoc 2 g w)) ∙ sym (add-mul d (2 * g) w) in
    lt_of_lt_of_le (sq_under (d + 2 * g) (4 * (2 * c)) w (d * w + g * (2 * w)) W (lt_of_lt_of_le b n) (le_of_eq s))
    (le_of_eq (mul_assoc 4 (2 * c) (w * w)))

-- ---- the root's pattern, and the patterns beside it
abbrev pattern : ℕ → ℕ → ℕ
pattern j g = suc j * 4503599627370496 + g

own_magnitude : (j g : ℕ) → 2 ^ 52 ≤ g → g ≤ 2 ^ 53 → magnitude binary64 (pattern j g) ≡ g * (2 * 2 ^ j)
own_magnitude j g lo hi = magnitude_root binary64 (suc j) g lo hi ∙ ap (λ (z : ℕ). g * z) (pow-succ' 2 j)

-- at g = 2 ^ 53 the spacing doubles
above_magnitude : (j g : ℕ) → 2 ^ 52 ≤ g → g ≤ 2 ^ 53 → (g + 1) * (2 * 2 ^ j) ≤ magnitude binary64 (pattern j g + 1)
above_magnitude j g lo hi = elim (eq-or-lt_of_le hi) [
  | inl e ↦
      let m : magnitude binary64 (pattern j g + 1) ≡ (2 ^ 52 + 1) * (2 * (2 * 2 ^ j)) =
      ap (magnitude binary64) (omega arith) ∙ own_magnitude (suc j) (2 ^ 52 + 1) (omega arith) (omega arith)
      ∙ ap (λ (z : ℕ). (2 ^ 52 + 1) * (2 * z)) (pow-succ' 2 j) in
      le_trans (wide g (2 ^ 52 + 1) (2 * 2 ^ j) (omega arith)) (le_of_eq (sym m))
  | inr l ↦ le_of_eq (sym (ap (magnitude binary64) (omega arith) ∙ own_magnitude j (g + 1) (omega arith) (omega arith)))
]
  where
    wide : (g h v : ℕ) → g + 1 ≤ h * 2 → (g + 1) * v ≤ h * (2 * v)
    wide g h v k = le_trans (mul-le-mul_right v k) (le_of_eq (mul_assoc h 2 v))

below_magnitude : (j p : ℕ) → 2 ^ 52 ≤ p → p < 2 ^ 53 → magnitude binary64 (pattern j (p + 1) - 1) ≡ p * (2 * 2 ^ j)
below_magnitude j p lo hi = ap (magnitude binary64) (omega arith) ∙ own_magnitude j p lo (omega arith)

foot_magnitude : (j : ℕ) → magnitude binary64 (pattern j (2 ^ 52) - 1) ≡ (2 ^ 53 - 1) * 2 ^ j
foot_magnitude j =
    ap (magnitude binary64) (omega arith) ∙ magnitude_root binary64 j (2 ^ 53 - 1) (omega arith) (omega arith)

-- n = 2 * c * (w * w) with w = 2 ^ j, q is the root of 2 * c and has 54 digits, and g = (q + 1) / 2
record Digits (n c q g j : ℕ) : Type 0 where
  from : 2 ^ 53 ≤ q
  small : q < 2 ^ 54
  root_le : q * q ≤ 2 * c
  root_lt : 2 * c < (q + 1) * (q + 1)
  half : (q + 1) / 2 ≡ g
  reach : j ≤ 1532
  number : n ≡ 2 * c * (2 ^ j * 2 ^ j)

in_range : (n c q g j : ℕ) → Digits n c q g j → (0 < pattern j g) × (pattern j g + 1 < inf_bits binary64)
in_range n c q g j D = (omega arith, omega arith)

root_at : (n c q g j : ℕ) → Digits n c q g j → rounded_root binary64 n ≡ of_bits binary64 (pattern j g)
root_at n c q g j D =
    near_root_bits binary64 c q n j D.from D.small D.root_le D.root_lt D.number (omega arith)
    ∙ ap (λ (z : ℕ). of_bits binary64 (pattern j z)) D.half

upper : (n c q g j : ℕ) → Digits n c q g j
    → 4 * n < sum_sq (magnitude binary64 (pattern j g)) (magnitude binary64 (pattern j g + 1))
upper n c q g j D =
    let lo : 2 ^ 52 ≤ g = omega arith in
    let hi : g ≤ 2 ^ 53 = omega arith in
    rw (D.number, own_magnitude j g lo hi) (past c q g (2 ^ j) (magnitude binary64 (pattern j g + 1)) (pow_pos j)
    D.root_lt (omega arith) (above_magnitude j g lo hi))

lower : (n c q g j : ℕ) → Digits n c q g j
    → sum_sq (magnitude binary64 (pattern j g - 1)) (magnitude binary64 (pattern j g)) < 4 * n
lower n c q g j D = elim (le_or_lt g (2 ^ 52)) [
  | inl h ↦
      let e : g ≡ 2 ^ 52 = omega arith in
      let k : 2 ^ 53 * 2 ^ 53 ≤ 2 * c = le_trans (mul-le-mul D.from D.from) D.root_le in
      rw (e, D.number, own_magnitude j (2 ^ 52) (omega arith) (omega arith), foot_magnitude j)
      (short_foot c (2 ^ 52) (2 ^ 53 - 1) (2 ^ j) (pow_pos j) k (omega arith))
  | inr h ↦
      let p = g - 1 in
      let e : g ≡ p + 1 = omega arith in
      subst (λ (z : ℕ). sum_sq (magnitude binary64 (pattern j z - 1)) (magnitude binary64 (pattern j z)) < 4 * n)
      (sym e)
      (rw
      (D.number, own_magnitude j (p + 1) (omega arith) (omega arith), below_magnitude j p (omega arith) (omega arith))
      (short c q p (2 ^ j) (pow_pos j) D.root_le (omega arith)))
]

-- ---- the digits of the root of a pattern's number
record Normal (n c e : ℕ) : Type 0 where
  same : c * 2 ^ e ≡ n * 2 ^ 52
  from : 2 ^ 52 ≤ c
  small : c < 2 ^ 54
  even : e % 2 ≡ 0
  reach : e ≤ 2097

parts : (b : ℕ) → 0 < b → b < inf_bits binary64
    → (c : ℕ) × (e : ℕ) × (Decomposed (magnitude binary64 b) c e × (c < 2 ^ 53))
parts b p h = elim (le_or_lt 1 (b / 4503599627370496)) [
  | inl k ↦ (_, _, parts_more b h (λ (z : b / 4503599627370496 ≡ 0). omega arith))
  | inr k ↦ (_, _, parts_zero b p (omega arith))
]

-- k only bounds the turns
lifted : (k c₀ e₀ c e : ℕ) → e < k → Up c₀ e₀ c e → (c' : ℕ) × (e' : ℕ) × Normalized c₀ e₀ c' e'
lifted zero c₀ e₀ c e h v = absurd (omega arith)
lifted (suc k) c₀ e₀ c e h v = elim (le_or_lt 4503599627370496 c) [
  | inl d ↦ (c, e, record { same = v.same; from = d; small = v.small; reach = v.reach })
  | inr d ↦ lifted k c₀ e₀ (c * 2) (e - 1) (omega (arith, up_more c₀ e₀ c e v d)) (up_turn c₀ e₀ c e v d)
]

evened : (c e : ℕ) → (c' : ℕ) × (e' : ℕ) × EvenExponent c e c' e'
evened c e = elim (le_or_lt 1 (e % 2)) [
  | inl k ↦ (c * 2, e - 1, even_step c e (λ (z : e % 2 ≡ 0). omega arith))
  | inr k
      ↦ (c, e, record { same = refl; from = omega arith; small = omega arith; even = omega arith; reach = omega arith })
]

normal : (b : ℕ) → 0 < b → b < inf_bits binary64 → (c : ℕ) × (e : ℕ) × Normal (magnitude binary64 b) c e
normal b p h =
    let s = parts b p h in
    let l = lifted (suc s.1) s.0 s.1 s.0 s.1 (omega arith)
    (up_start s.0 s.1 (lifts_of b s.0 s.1 p s.2.0 s.2.1)) in
    let v = evened l.0 l.1 in (
      v.0,
      v.1,
      record {
        same = v.2.same ∙ l.2.same ∙ s.2.0.same;
        from = omega (arith, l.2.from, v.2.from);
        small = omega (arith, l.2.small, v.2.small);
        even = v.2.even;
        reach = omega (arith, v.2.reach, l.2.reach, s.2.0.reach);
      },
    )

digits : (n c e q : ℕ) → Normal n c e → IsRoot (c * 2 ^ 54) q
    → Digits (n * 2 ^ low binary64) (c * 2 ^ 53) q ((q + 1) / 2) (e / 2 + 484)
digits n c e q s r =
    let qa : 2 ^ 53 < q + 1 = sq_lt (2 ^ 53) (q + 1) (omega (arith, r.1, s.from)) in
    record {
      from = omega arith;
      small = sq_lt q (2 ^ 54) (omega (arith, r.0, s.small));
      root_le = omega (arith, r.0);
      root_lt = omega (arith, r.1);
      half = refl;
      reach = omega (arith, s.reach);
      number = widen n c e (e / 2) s.same (omega (arith, s.even));
    }

-- ---- the floats beside a pattern's
-- v is finite, and n units
abbrev At : Float → ℕ → Type 0
At v n = T (finite v) × (units_of binary64 v ≡ pos n)

value-at : (v : Float) (n : ℕ) → HasValue v false n (2 ^ low binary64) → At v n
unfolding units_of
value-at (fin true m e) n h = absurd (true≢false h.0)
value-at (fin false m e) n h = (tt, ap pos (ap (λ (z : ℕ). z / down e) h.1 ∙ mul-div_cancel n (down_pos e)))
value-at nan n h = elim h [ ]
value-at (inf _) n h = elim h [ ]

at_bits : (b : ℕ) → b < inf_bits binary64 → At (of_bits binary64 b) (magnitude binary64 b)
at_bits b h = value-at (of_bits binary64 b) (magnitude binary64 b) (of_bits-val binary64 b h)

twice_neg : (v : Float) → neg (neg v) ≡ v
unfolding neg
twice_neg nan = refl
twice_neg (inf true) = refl
twice_neg (inf false) = refl
twice_neg (fin true m e) = refl
twice_neg (fin false m e) = refl

steps : (v : Float) (n : ℕ) → 0 < n → HasValue v false n (2 ^ low binary64)
    → (outer v ≡ next_up v) × (inner v ≡ next_down v)
unfolding next_up neg
steps (fin true m e) n N h = absurd (true≢false h.0)
steps (fin false zero e) n N h =
    let z : n ≡ 0 = zero_value (fin false 0 e) 1 n (2 ^ low binary64)
    (refl, ap (λ (z : ℕ). z * 1) (zero-mul (up e)) ∙ sym (zero-mul (down e))) h (zero-lt-suc 0) in
    absurd (lt_irrefl 0 (subst (λ (k : ℕ). 0 < k) z N))
steps (fin false (suc m) e) n N h = (refl, sym (twice_neg (inner (fin false (suc m) e))))
steps nan n N h = elim h [ ]
steps (inf _) n N h = elim h [ ]

beside : (b : ℕ) → 0 < b → b + 1 < inf_bits binary64 → At (next_down (of_bits binary64 b)) (magnitude binary64 (b - 1))
    × At (of_bits binary64 b) (magnitude binary64 b) × At (next_up (of_bits binary64 b)) (magnitude binary64 (b + 1))
beside b p h =
    let v = of_bits binary64 b in
    let B : b < inf_bits binary64 = omega arith in
    let i : to_bits binary64 v ≡ b = pattern_bits binary64 b (omega arith) in
    let w =
    steps v (magnitude binary64 b) (lt_of_le_of_lt zero-le (magnitude_lt binary64 0 b p))
    (of_bits-val binary64 b B) in (
      subst (λ (z : Float). At z (magnitude binary64 (b - 1))) (ap (λ (k : ℕ). of_bits binary64 (k - 1)) (sym i) ∙ w.1)
          (at_bits (b - 1) (omega arith)),
      at_bits b B,
      subst (λ (z : Float). At z (magnitude binary64 (b + 1))) (ap (λ (k : ℕ). of_bits binary64 (k + 1)) (sym i) ∙ w.0)
          (at_bits (b + 1) h),
    )

-- ---- the root is nearest
from_units : (x r : Float) (n d u v : ℕ) → units_of binary64 x ≡ pos n → At (next_down r) d × At r u × At (next_up r) v
    → sum_sq d u < 4 * (n * 2 ^ low binary64) → 4 * (n * 2 ^ low binary64) < sum_sq u v → NearestRoot x r
from_units x r n d u v e a lo hi = record {
  finite_below = a.0.0;
  finite_root = a.1.0;
  finite_above = a.2.0;
  not_negative = rw a.0.1 (le→leb 0 d zero-le);
  past_lower = rw (a.0.1, a.1.1, e) (lt→ltb (sum_sq d u) (4 * (n * 2 ^ low binary64)) lo);
  short_of_upper = rw (a.1.1, a.2.1, e) (lt→ltb (4 * (n * 2 ^ low binary64)) (sum_sq u v) hi);
}

near : (x : Float) (n c q g j : ℕ) → units_of binary64 x ≡ pos n → Digits (n * 2 ^ low binary64) c q g j
    → NearestRoot x (rounded_root binary64 (n * 2 ^ low binary64))
near x n c q g j e D =
    let N = n * 2 ^ low binary64 in
    let b = pattern j g in
    let w = in_range N c q g j D in
    subst (NearestRoot x) (sym (root_at N c q g j D))
    (from_units x (of_bits binary64 b) n (magnitude binary64 (b - 1)) (magnitude binary64 b)
    (magnitude binary64 (b + 1)) e (beside b w.0 w.1) (lower N c q g j D) (upper N c q g j D))

positive : (x : Float) → T (finite x) → T (lt zero64 x) → (m : ℕ) × (e : ℤ) × (x ≡ fin false (suc m) e)
unfolding lt
positive (fin true m e) h k = absurd k
positive (fin false zero e) h k = absurd (omega (arith, ltb→lt (0 * down e) (0 * up e * 1) k))
positive (fin false (suc m) e) h k = (m, e, refl)
positive nan h k = elim h [ ]
positive (inf _) h k = elim h [ ]

pub root_nearest : (x : Float) → T (fits binary64 x) → T (finite x) → T (lt zero64 x) → NearestRoot x (nearest_root x)
root_nearest x t h p =
    let b = to_bits binary64 x in
    let a = root_above x t (positive x h p) in
    let u : units_of binary64 x ≡ pos (magnitude binary64 b) =
    ap (units_of binary64) (sym (of_bits-to_bits binary64 x t)) ∙ (at_bits b a.1).1 in
    let s = normal b a.0 a.1 in
    let q = isqrt (s.0 * 2 ^ 54) in
    subst (NearestRoot x) a.2 (near x (magnitude binary64 b) (s.0 * 2 ^ 53) q ((q + 1) / 2) (s.1 / 2 + 484) u
    (digits (magnitude binary64 b) s.0 s.1 q s.2 (isqrt_is (s.0 * 2 ^ 54))))
