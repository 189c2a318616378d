-- A third of a positive scalar, sharpened, is positive and finite where it is definitely positive: the products with 1
-- / 3, stepped outward, stay below three eighths of 2 ^ 1024, so their sum is finite.
use Rattle.std.proofs.Common.{◌≡◌, ℕ, ◌+◌, ◌-◌, ◌*◌, ◌^◌, ◌<◌, ◌≤◌, true, false, not, T, negsuc, sym, refl, ap, ◌∙◌}
use Rattle.std.proofs.Common.{subst, inl, inr, zero-le, le_trans, le_of_eq, lt_of_le_of_lt, le_of_lt, lt_irrefl}
use Rattle.std.proofs.Common.{mul-le-mul_right, mul_assoc, mul_comm, mul-le-mul, mul-le-mul_left, mul-pos, mul-one}
use Rattle.std.proofs.Common.{mul_left_comm, arith, lit<, lit≤, pow_pos}
use lib.Ieee.{Float, nan, inf, fin, binary64, low, hid, up, down, round, add, mul, div, neg, lt, fits, to_bits, of_bits}
use lib.Ieee.{is_nan}
use lib.Ieee.Exact.{HasValue}
use lib.Ieee.Fits.{down_pos, add-fits, mul-fits, round-fits}
use lib.Ieee.Scale.{finite}
use lib.Ieee.Positive.{positive_of_value, mul_at}
use Rattle.interval.specs.declared.Scalar.{Scalar}
use Rattle.interval.specs.Enclosure.{units_of}
use Rattle.interval.specs.Float.{least, greatest}
use Rattle.interval.specs.Pattern.{inf_bits, magnitude}
use Rattle.interval.specs.Scalar.{zero64, one64, two64, degenerate, inverse}
use Rattle.interval.specs.Scaling.{three64, third}
use Rattle.interval.specs.Step.{next_up, next_down}
use Rattle.interval.proofs.Integers.{P, N, parts_of_lt}
use Rattle.interval.proofs.Patterns.{bits_val, bits_under}
use Rattle.interval.proofs.Rounding.{NonNegative, round_nonneg, at}
use Rattle.interval.proofs.Rank.{rank, units-P, round_rank, neg_round}
use Rattle.interval.proofs.Outward.{up_fits, down_fits, down_rank, rank_up, rising}
use Rattle.interval.proofs.Enclosure.Add.{add_rounds}
use Rattle.interval.proofs.Product.{round_number}
use Rattle.interval.proofs.Order.{least_any, greatest_any}
use Rattle.interval.proofs.Infinite.{down_finite}
use Rattle.interval.proofs.Infinite.{up_any}
use Rattle.interval.proofs.MinMax.{either_least, either_greatest}
use Rattle.interval.proofs.OrderUnits.{lt_units}
use Rattle.interval.proofs.OneSided.Ends.{zero_fits}
use Rattle.interval.proofs.Spacing.{at_most, magnitude_le}
use Rattle.interval.proofs.ProductEnds.{middle_ends}
use Rattle.interval.proofs.Scaling.Quadruple.{round_pattern, Pattern, pattern-P, pattern_value, pattern_under}
use Rattle.interval.proofs.Scaling.Quadruple.{magnitude_some, magnitude_only}

third_low : next_down (div binary64 one64 three64) ≡ fin false 1501199875790165 (negsuc 51)
unfolding next_up neg div round to_bits of_bits
third_low = refl

third_high : next_up (div binary64 one64 three64) ≡ fin false 3002399751580331 (negsuc 52)
unfolding next_up neg div round to_bits of_bits
third_high = refl

-- three eighths and seven eighths of 2 ^ 1024, as patterns
abbrev B1 : ℕ
B1 = 2045 * hid binary64 + 2251799813685248

abbrev B2 : ℕ
B2 = 2046 * hid binary64 + 3377699720527872

three_eighths : 8 * magnitude binary64 B1 ≡ 3 * magnitude binary64 (inf_bits binary64)
unfolding magnitude
three_eighths = refl

seven_eighths : magnitude binary64 B1 + magnitude binary64 (B1 + 1) ≤ magnitude binary64 B2
unfolding magnitude
seven_eighths = lit≤ tt

-- a product with a factor m / q of at most three eighths
cut : (n m q l b e : ℕ) → 8 * m ≤ 3 * q → n ≤ e → 8 * b ≡ 3 * e → n * m * l ≤ b * (l * q)
cut n m q l b e h k w =
    let x : n * (8 * m) ≤ e * (3 * q) = mul-le-mul k h in
    let y : e * (3 * q) ≡ 8 * (b * q) =
    mul_left_comm e 3 q ∙ sym (mul_assoc 3 e q) ∙ ap (λ (z : ℕ). z * q) (sym w) ∙ mul_assoc 8 b q in
    let v : n * (8 * m) ≡ 8 * (n * m) = mul_left_comm n 8 m in
    let g : n * m ≤ b * q = omega arith in
    le_trans (mul-le-mul_right l g) (le_of_eq (mul_assoc b q l ∙ ap (λ (z : ℕ). b * z) (mul_comm q l)))

-- x * i for i = m / q
small : (x i : Float) (b m q : ℕ) → Pattern x b → 0 < b → HasValue i false m q → 0 < m → 0 < q → 8 * m ≤ 3 * q
    → (mul binary64 x i ≡ round binary64 false (magnitude binary64 b * m) (2 ^ low binary64 * q))
    × (at binary64 (magnitude binary64 b * m) (2 ^ low binary64 * q) ≤ B1)
small x i b m q p h v M Q e =
    let n = magnitude binary64 b in
    let u = pattern_value x b p h in
    let k : n ≤ magnitude binary64 (inf_bits binary64) =
    magnitude_le binary64 b (inf_bits binary64) (le_of_lt (pattern_under p)) in (
      mul_at binary64 x i n (2 ^ low binary64) m q (positive_of_value x n (2 ^ low binary64) u (magnitude_some b h))
          (positive_of_value i m q v M) (pow_pos (low binary64)) Q u v,
      at_most binary64 (n * m) (2 ^ low binary64 * q) B1 (mul-pos (pow_pos (low binary64)) Q) (lit< tt) (cut n m q
          (2 ^ low binary64) (magnitude binary64 B1) (magnitude binary64 (inf_bits binary64)) e k three_eighths),
    )

minus_rank : rank binary64 (inf true) ≡ 0
unfolding rank
minus_rank = refl

plus_rank : rank binary64 (inf false) ≡ inf_bits binary64 + inf_bits binary64
unfolding rank
plus_rank = refl

not_top : (g : Float) → T (not (is_nan g)) → rank binary64 g < inf_bits binary64 + inf_bits binary64 → T (rising g)
unfolding is_nan
not_top nan n h = n
not_top (inf true) n h = tt
not_top (inf false) n h = absurd (lt_irrefl (inf_bits binary64 + inf_bits binary64)
    (subst (λ (z : ℕ). z < inf_bits binary64 + inf_bits binary64) plus_rank h))
not_top (fin s m e) n h = tt

P-under : (x : Float) (i : ℕ) → T (fits binary64 x) → T (finite x) → rank binary64 x ≤ inf_bits binary64 + i
    → P (units_of binary64 x) ≤ magnitude binary64 i
P-under x i t f h = le_trans (le_of_eq (units-P binary64 x t f))
    (magnitude_le binary64 (rank binary64 x - inf_bits binary64) i (omega arith))

-- the sum of two bounded floats
sum_under : (x y : Float) → T (fits binary64 x) → T (finite x) → T (fits binary64 y) → T (finite y)
    → P (units_of binary64 x) ≤ magnitude binary64 B1 → P (units_of binary64 y) ≤ magnitude binary64 (B1 + 1)
    → rank binary64 (add binary64 x y) ≤ inf_bits binary64 + B2
sum_under x y tx fx ty fy a b =
    let r = add_rounds x y tx fx ty fy in
    let l = 2 ^ low binary64 in
    let w : r.num_p * l ≤ magnitude binary64 B2 * r.den =
    le_trans (le_of_eq (sym (mul-one (r.num_p * l)) ∙ r.is_p))
    (mul-le-mul_right r.den (le_trans (both (P (units_of binary64 x)) (P (units_of binary64 y)) (magnitude binary64 B1)
    (magnitude binary64 (B1 + 1)) a b) seven_eighths)) in
    let k : at binary64 (r.num_p - r.num_q) r.den ≤ B2 = at_most binary64 (r.num_p - r.num_q) r.den B2
    r.den_pos (lit< tt) (le_trans (mul-le-mul_right l (omega arith)) w) in
    le_trans (le_of_eq r.at_rank) (omega arith)
  where
    both : (a b c d : ℕ) → a ≤ c → b ≤ d → a + b ≤ c + d
    both a b c d h k = omega arith

zero_none : (P (units_of binary64 zero64) ≡ 0) × (N (units_of binary64 zero64) ≡ 0)
unfolding units_of
zero_none = (refl, refl)

-- half of it, where that is above 0
half_above : (s : Float) → T (fits binary64 s) → rank binary64 s ≤ inf_bits binary64 + B2
    → T (lt zero64 (div binary64 s two64)) → (c : ℕ) × Pattern (div binary64 s two64) c × (0 < c)
unfolding NonNegative
half_above nan t h k = absurd (unfold div in unfold lt in k)
half_above (inf true) t h k = absurd (unfold div in unfold lt in k)
half_above (inf false) t h k = absurd (top (subst (λ (z : ℕ). z ≤ inf_bits binary64 + B2) plus_rank h))
  where
    top : inf_bits binary64 + inf_bits binary64 ≤ inf_bits binary64 + B2 → ⊥
    top h = omega arith
half_above (fin true m e) t h k =
    let a = m * up e * 1 in
    let c = 1 * 2 * down e in
    let q : div binary64 (fin true m e) two64 ≡ round binary64 true a c = unfold div in refl in
    absurd (under (round binary64 false a c) (round_nonneg binary64 a c)
    (subst (λ (z : Float). T (lt zero64 z)) (q ∙ neg_round binary64 a c) k))
  where
    under : (v : Float) → NonNegative v → T (lt zero64 (neg v)) → ⊥
    under v (inl e) h = unfold neg in unfold lt in subst (λ (z : Float). T (lt zero64 (neg z))) e h
    under v (inr w) h = unfold neg in unfold lt in subst (λ (z : Float). T (lt zero64 (neg z))) w.2 h
half_above (fin false m e) t h k =
    let a = m * up e * 1 in
    let c = 1 * 2 * down e in
    let b = to_bits binary64 (fin false m e) in
    let B = bits_under binary64 m e t in
    let q : div binary64 (fin false m e) two64 ≡ round binary64 false a c = unfold div in refl in
    let i : at binary64 a c ≤ b = at_most binary64 a c b (pos2 (down e) (down_pos e)) B
    (half (m * up e) (2 ^ low binary64) (magnitude binary64 b) (down e) (bits_val binary64 m e t).1) in
    let v = round binary64 false a c in
    let f : T (finite v) = fin_of v (round_nonneg binary64 a c) (round_rank binary64 false a c) (lt_of_le_of_lt i B) in
    let p = round_pattern a c f in
    let u = parts_of_lt (units_of binary64 zero64) (units_of binary64 v) (lt_units zero64 v zero_fits.0 tt
    (round-fits binary64 false a c) f (subst (λ (z : Float). T (lt zero64 z)) q k)) in (
      at binary64 a c,
      subst (λ (z : Float). Pattern z (at binary64 a c)) (sym q) p,
      magnitude_only (at binary64 a c) (omega (arith, u, zero_none, pattern-P p)),
    )
  where
    pos2 : (d : ℕ) → 0 < d → 0 < 1 * 2 * d
    pos2 d h = omega arith

    half : (n l g d : ℕ) → n * l ≡ g * d → n * 1 * l ≤ g * (1 * 2 * d)
    half n l g d e = le_trans (le_of_eq (ap (λ (z : ℕ). z * l) (mul-one n) ∙ e)) (mul-le-mul_left g (twice d))
      where
        twice : (d : ℕ) → d ≤ 1 * 2 * d
        twice d = omega arith

    fin_of : (v : Float) {i : ℕ} → NonNegative v → rank binary64 v ≡ inf_bits binary64 + i → i < inf_bits binary64
        → T (finite v)
    fin_of v (inl e) q h =
        absurd (lt_irrefl (inf_bits binary64) (same (sym plus_rank ∙ ap (rank binary64) (sym e) ∙ q) h))
      where
        same : {i : ℕ} → inf_bits binary64 + inf_bits binary64 ≡ inf_bits binary64 + i → i < inf_bits binary64
            → inf_bits binary64 < inf_bits binary64
        same e h = omega arith
    fin_of v (inr w) q h = subst (λ (z : Float). T (finite z)) (sym w.2) tt

-- a third of [lo, hi] above 0, sharpened, is positive and finite where it is definitely positive
pub third_above : (mu : Scalar) (a b : ℕ) → Pattern mu.lo a → 0 < a → Pattern mu.hi b → 0 < b
    → T (lt zero64 (third mu).lo) → (c : ℕ) × Pattern (third mu).lo c × (0 < c)
third_above mu a b pa ha pb hb h =
    let E = inf_bits binary64 in
    let i = next_down (div binary64 one64 three64) in
    let j = next_up (div binary64 one64 three64) in
    let vi : HasValue i false 1501199875790165 (2 ^ 52) =
    subst (λ (z : Float). HasValue z false 1501199875790165 (2 ^ 52)) (sym third_low) (refl, refl) in
    let vj : HasValue j false 3002399751580331 (2 ^ 53) =
    subst (λ (z : Float). HasValue z false 3002399751580331 (2 ^ 53)) (sym third_high) (refl, refl) in
    let A = mul binary64 mu.lo i in
    let B = mul binary64 mu.lo j in
    let C = mul binary64 mu.hi i in
    let D = mul binary64 mu.hi j in
    let sa = small mu.lo i a 1501199875790165 (2 ^ 52) pa ha vi (lit< tt) (lit< tt) (lit≤ tt) in
    let sb = small mu.lo j a 3002399751580331 (2 ^ 53) pa ha vj (lit< tt) (lit< tt) (lit≤ tt) in
    let sc = small mu.hi i b 1501199875790165 (2 ^ 52) pb hb vi (lit< tt) (lit< tt) (lit≤ tt) in
    let sd = small mu.hi j b 3002399751580331 (2 ^ 53) pb hb vj (lit< tt) (lit< tt) (lit≤ tt) in
    let ka = bound A (magnitude binary64 a * 1501199875790165) (2 ^ low binary64 * 2 ^ 52) sa.0 sa.1 in
    let kb = bound B (magnitude binary64 a * 3002399751580331) (2 ^ low binary64 * 2 ^ 53) sb.0 sb.1 in
    let kc = bound C (magnitude binary64 b * 1501199875790165) (2 ^ low binary64 * 2 ^ 52) sc.0 sc.1 in
    let kd = bound D (magnitude binary64 b * 3002399751580331) (2 ^ low binary64 * 2 ^ 53) sd.0 sd.1 in
    let m = least A B C D in
    let g = greatest A B C D in
    let ls = least_any A B C D (mul-fits binary64 mu.lo i) (mul-fits binary64 mu.lo j)
    (mul-fits binary64 mu.hi i) (mul-fits binary64 mu.hi j) in
    let gs = greatest_any A B C D (mul-fits binary64 mu.lo i) (mul-fits binary64 mu.lo j)
    (mul-fits binary64 mu.hi i) (mul-fits binary64 mu.hi j) in
    let shape : NonNegative m = either_least NonNegative A B C D (unfold NonNegative in inl refl) ka.0 kb.0
    kc.0 kd.0 in
    let fm : T (finite (next_down m)) = down_finite m shape ls.number.0 in
    let top : rank binary64 g ≤ E + B1 = either_greatest (λ z. rank binary64 z ≤ inf_bits binary64 + B1) A B C D
    (le_trans (le_of_eq minus_rank) zero-le) ka.1 kb.1 kc.1 kd.1 in
    let up' = rank_up g gs.number.0 (not_top g gs.number.1 (omega arith)) in
    let fg : T (finite (next_up g)) = elim (up_any g gs.number.0
    gs.number.1) [ inl k ↦ k | inr e ↦ absurd (far (ap (rank binary64) e ∙ plus_rank) up' top) ] in
    let dn = down_rank m ls.number.0 fm in
    let low-m = ls.at_p (subst (λ (z : Float). T (not (is_nan z))) (sym sa.0)
    (round_number binary64 false (magnitude binary64 a * 1501199875790165) (2 ^ low binary64 * 2 ^ 52))) in
    let s = add binary64 (next_down m) (next_up g) in
    subst (λ (z : Float). T (lt zero64 z) → (c : ℕ) × Pattern z c × (0 < c))
    (sym (middle_ends mu (inverse (degenerate three64))))
    (half_above s (add-fits binary64 (next_down m) (next_up g))
    (sum_under (next_down m) (next_up g) (down_fits m) fm (up_fits g) fg (P-under (next_down m) B1 (down_fits m) fm
    (omega (arith, ka.1))) (P-under (next_up g) (B1 + 1) (up_fits g) fg (omega arith)))) h
  where
    bound : (v : Float) (x c : ℕ) → v ≡ round binary64 false x c → at binary64 x c ≤ B1
        → NonNegative v × (rank binary64 v ≤ inf_bits binary64 + B1)
    bound v x c e h = subst (λ (z : Float). NonNegative z × (rank binary64 z ≤ inf_bits binary64 + B1)) (sym e)
        (round_nonneg binary64 x c, le_trans (le_of_eq (round_rank binary64 false x c)) (omega arith))

    far : {p q : ℕ} → p ≡ inf_bits binary64 + inf_bits binary64 → p ≡ q + 1 → q ≤ inf_bits binary64 + B1 → ⊥
    far e f h = omega arith
