-- Four times a sharp positive float, sharpened, is exactly four times it or not finite: the product is stepped out by
-- one place each way, and the middle of the two neighbours is the product again.
use Rattle.std.proofs.Common.{◌≡◌, ℕ, zero, suc, ◌+◌, ◌-◌, ◌*◌, ◌^◌, ◌<◌, ◌≤◌, true, false, not, T, ℤ, sym, refl, ap}
use Rattle.std.proofs.Common.{◌∙◌, subst, inl, inr, true≢false, zero-le, le_trans, le_of_eq, le_refl, lt_of_lt_of_le}
use Rattle.std.proofs.Common.{lt_of_le_of_lt, le_of_lt, lt_irrefl, mul-le-mul_right, mul_assoc, lt-suc_self, mul_comm}
use Rattle.std.proofs.Common.{eq-zero-or-pos, mul-le-mul_left, mul-pos, one-mul, zero-mul, mul-one, not-le_of_lt}
use Rattle.std.proofs.Common.{mul_left_comm, arith, lit<, lit≤, pow_pos, pow_mono, pow-add}
use lib.Ieee.{Float, nan, inf, fin, binary64, low, hid, up, down, round, add, mul, div, lt, fits, to_bits, is_nan}
use lib.Ieee.Exact.{HasValue}
use lib.Ieee.Fits.{down_pos, round-fits, add-fits, div-fits, mul-fits}
use lib.Ieee.Scale.{finite}
use lib.Ieee.Positive.{positive_of_value, mul_at}
use Rattle.interval.specs.declared.Scalar.{Scalar}
use Rattle.interval.specs.Enclosure.{units_of}
use Rattle.interval.specs.Float.{least, greatest, lesser, greater}
use Rattle.interval.specs.Pattern.{inf_bits, magnitude}
use Rattle.interval.specs.Scalar.{degenerate, two64}
use Rattle.interval.specs.Scaling.{four64, quadruple, quadrupled, quadruple_times}
use Rattle.interval.specs.Step.{next_up, next_down}
use Rattle.interval.proofs.Integers.{P, N}
use Rattle.interval.proofs.Patterns.{bits_under, bits_val, magnitude_zero}
use Rattle.interval.proofs.Rounding.{magnitude_lt, NonNegative, round_nonneg, at}
use Rattle.interval.proofs.Rank.{rank, rank_of, rank_in, units-P, units-N, none_at, round_rank, neg_round}
use Rattle.interval.proofs.Rank.{le_or_lt}
use Rattle.interval.proofs.Outward.{up_fits, down_fits, up_rank, down_rank, rank_up, rising, positive_fits}
use Rattle.interval.proofs.Enclosure.Add.{add_rounds}
use Rattle.interval.proofs.Product.{round_number, nonneg_number}
use Rattle.interval.proofs.Infinite.{down_finite, up_any, neg_finite}
use Rattle.interval.proofs.MinMax.{either, either_lesser, either_least, least_is, greatest_is}
use Rattle.interval.proofs.OneSided.Add.{add_number}
use Rattle.interval.proofs.Order.{least_any, greatest_any}
use Rattle.interval.proofs.Spacing.{at_ge, at_most, magnitude_infinity, magnitude_le, at_own, at_same, doubled}
use Rattle.interval.proofs.Spacing.{magnitude_doubled, magnitude_inj, around, magnitude_around, foot_magnitude}
use Rattle.interval.proofs.Spacing.{gap_of}
use Rattle.interval.proofs.ProductEnds.{middle_ends}

abbrev L : ℕ
L = 2 ^ low binary64

-- x has the pattern b: it is finite, and `magnitude b` units above 0
pub record Pattern (x : Float) (b : ℕ) : Type 0 where
  pub is_float : T (fits binary64 x)
  pub is-finite : T (finite x)
  pub at_rank : rank binary64 x ≡ inf_bits binary64 + b

pub pattern_under : {x : Float} {b : ℕ} → Pattern x b → b < inf_bits binary64
pattern_under {x} {b} p = omega (arith, rank_in binary64 x p.is_float p.is-finite, p.at_rank)

pub pattern-P : {x : Float} {b : ℕ} → Pattern x b → P (units_of binary64 x) ≡ magnitude binary64 b
pattern-P {x} {b} p = units-P binary64 x p.is_float p.is-finite
    ∙ ap (magnitude binary64) (ap (λ (z : ℕ). z - inf_bits binary64) p.at_rank ∙ back (inf_bits binary64) b)
  where
    back : (a b : ℕ) → a + b - a ≡ b
    back a b = omega arith

pub pattern-N : {x : Float} {b : ℕ} → Pattern x b → N (units_of binary64 x) ≡ 0
pattern-N {x} {b} p = units-N binary64 x p.is_float p.is-finite
    ∙ ap (magnitude binary64) (ap (λ (z : ℕ). inf_bits binary64 - z) p.at_rank ∙ back (inf_bits binary64) b)
    ∙ magnitude_zero binary64
  where
    back : (a b : ℕ) → a - (a + b) ≡ 0
    back a b = omega arith

pub pattern_value : (x : Float) (b : ℕ) → Pattern x b → 0 < b
    → HasValue x false (magnitude binary64 b) (2 ^ low binary64)
unfolding rank
pattern_value nan b p h = absurd p.is-finite
pattern_value (inf s) b p h = absurd p.is-finite
pattern_value (fin true m e) b p h = absurd (omega (arith, p.at_rank))
pattern_value (fin false m e) b p h =
    let q : to_bits binary64 (fin false m e) ≡ b = omega (arith, p.at_rank) in
    subst (λ (z : ℕ). HasValue (fin false m e) false (magnitude binary64 z) (2 ^ low binary64)) q
    (bits_val binary64 m e p.is_float)

pub magnitude_some : (b : ℕ) → 0 < b → 0 < magnitude binary64 b
magnitude_some b h = subst (λ (z : ℕ). z < magnitude binary64 b) (magnitude_zero binary64) (magnitude_lt binary64 0 b h)

pub magnitude_only : (b : ℕ) → 0 < magnitude binary64 b → 0 < b
magnitude_only b h = elim (eq-zero-or-pos b) [
  | inr k ↦ k
  | inl e ↦ absurd (lt_irrefl 0 (subst (λ (z : ℕ). 0 < z) (ap (magnitude binary64) e ∙ magnitude_zero binary64) h))
]

pub doubled_some : (b : ℕ) → 0 < b → 0 < doubled binary64 b
doubled_some b h = magnitude_only (doubled binary64 b)
    (subst (λ (z : ℕ). 0 < z) (sym (magnitude_doubled binary64 b)) (mul-pos (lit< tt) (magnitude_some b h)))

-- ---- four times
pub times4 : (x : Float) (b : ℕ) → Pattern x b → 0 < b → mul binary64 x four64
    ≡ round binary64 false (magnitude binary64 (doubled binary64 (doubled binary64 b))) (2 ^ low binary64)
times4 x b p h =
    let n = magnitude binary64 b in
    let v = pattern_value x b p h in
    mul_at binary64 x four64 n (2 ^ low binary64) 4 1 (positive_of_value x n (2 ^ low binary64) v (magnitude_some b h))
    tt (pow_pos (low binary64)) (lit< tt) v (refl, refl)
    ∙ ap (λ (z : ℕ). round binary64 false (n * 4) z) (mul-one (2 ^ low binary64))
    ∙ ap (λ (z : ℕ). round binary64 false z (2 ^ low binary64))
    (omega (arith, magnitude_doubled binary64 (doubled binary64 b), magnitude_doubled binary64 b))

-- ---- the least and the greatest of four that are one
same_four : (v : Float) → NonNegative v → (least v v v v ≡ v) × (greatest v v v v ≡ v)
unfolding NonNegative
same_four v h = (least_is v v v v ∙ lows v (low v h), greatest_is v v v v ∙ highs v (high v h))
  where
    low : (v : Float) → NonNegative v → lesser (inf false) v ≡ v
    low v (inl e) = subst (λ (z : Float). lesser (inf false) z ≡ z) (sym e) (unfold lesser lt in refl)
    low v (inr w) = subst (λ (z : Float). lesser (inf false) z ≡ z) (sym w.2) (unfold lesser lt in refl)

    high : (v : Float) → NonNegative v → greater (inf true) v ≡ v
    high v (inl e) = subst (λ (z : Float). greater (inf true) z ≡ z) (sym e) (unfold greater lt in refl)
    high v (inr w) = subst (λ (z : Float). greater (inf true) z ≡ z) (sym w.2) (unfold greater lt in refl)

    same_low : (v : Float) → lesser v v ≡ v
    same_low v = either_lesser v v (λ z. z ≡ v) refl refl

    same_high : (v : Float) → greater v v ≡ v
    same_high v = either v v (λ z. z ≡ v) refl refl

    lows : (v : Float) → lesser (inf false) v ≡ v → lesser (lesser (lesser (lesser (inf false) v) v) v) v ≡ v
    lows v e =
        ap (λ (z : Float). lesser (lesser (lesser z v) v) v) e ∙ ap (λ (z : Float). lesser (lesser z v) v) (same_low v)
        ∙ ap (λ (z : Float). lesser z v) (same_low v) ∙ same_low v

    highs : (v : Float) → greater (inf true) v ≡ v → greater (greater (greater (greater (inf true) v) v) v) v ≡ v
    highs v e = ap (λ (z : Float). greater (greater (greater z v) v) v) e
        ∙ ap (λ (z : Float). greater (greater z v) v) (same_high v)
        ∙ ap (λ (z : Float). greater z v) (same_high v) ∙ same_high v

-- ---- what has to be finite
pub half_finite : (s : Float) → T (finite (div binary64 s two64)) → T (finite s)
unfolding div
half_finite nan h = h
half_finite (inf s) h = h
half_finite (fin s m e) h = tt

pub sum_finite : (x y : Float) → T (finite (add binary64 x y)) → T (finite x) × T (finite y)
unfolding add
sum_finite nan y h = absurd h
sum_finite (inf s) nan h = absurd h
sum_finite (inf true) (inf true) h = absurd h
sum_finite (inf true) (inf false) h = absurd h
sum_finite (inf false) (inf true) h = absurd h
sum_finite (inf false) (inf false) h = absurd h
sum_finite (inf s) (fin t n d) h = absurd h
sum_finite (fin s m e) nan h = absurd h
sum_finite (fin s m e) (inf t) h = absurd h
sum_finite (fin s m e) (fin t n d) h = (tt, tt)

up_of_finite : (v : Float) → NonNegative v → T (finite (next_up v)) → T (finite v)
unfolding NonNegative next_up
up_of_finite v (inl e) h = absurd (subst (λ (z : Float). T (finite (next_up z))) e h)
up_of_finite v (inr w) h = subst (λ (z : Float). T (finite z)) (sym w.2) tt

pub round_pattern : (a c : ℕ) → T (finite (round binary64 false a c))
    → Pattern (round binary64 false a c) (at binary64 a c)
round_pattern a c h =
    record { is_float = round-fits binary64 false a c; is-finite = h; at_rank = round_rank binary64 false a c }

pub own_pattern : (v : Float) (i : ℕ) → v ≡ round binary64 false (magnitude binary64 i) (2 ^ low binary64)
    → T (finite v) → Pattern v i
own_pattern v i e h =
    let r = round_pattern (magnitude binary64 i) (2 ^ low binary64) (subst (λ (z : Float). T (finite z)) e h) in
    subst (λ (z : Float). Pattern z i) (sym e)
    (subst (Pattern (round binary64 false (magnitude binary64 i) (2 ^ low binary64))) (at_own i (pattern_under r)) r)

-- ---- a sum and a half, by patterns
pub twice_pos : (n : ℕ) → 0 < n → 0 < 2 * n
twice_pos n h = omega arith

none : (a l c : ℕ) → 0 < l → a * l * 1 ≡ 0 * c → a ≡ 0
none zero l c Lp e = refl
none (suc a) l c Lp e = absurd
    (lt_irrefl 0 (subst (λ (z : ℕ). 0 < z) (sym (mul-one (suc a * l)) ∙ e ∙ zero-mul c) (mul-pos (omega arith) Lp)))

pub sum_rank : (x y : Float) (a b : ℕ) → Pattern x a → Pattern y b → rank binary64 (add binary64 x y)
    ≡ inf_bits binary64 + at binary64 (magnitude binary64 a + magnitude binary64 b) (2 ^ low binary64)
sum_rank x y a b p q =
    let l = 2 ^ low binary64 in
    let r = add_rounds x y p.is_float p.is-finite q.is_float q.is-finite in
    let z : r.num_q ≡ 0 = none r.num_q l r.den (pow_pos (low binary64))
    (r.is_q ∙ ap (λ (k : ℕ). k * r.den) (omega (arith, pattern-N p, pattern-N q))) in
    let w : r.num_p * l ≡ (magnitude binary64 a + magnitude binary64 b) * r.den =
    sym (mul-one (r.num_p * l)) ∙ r.is_p ∙ ap (λ (k : ℕ). k * r.den) (omega (arith, pattern-P p, pattern-P q)) in
    let s : at binary64 r.num_p r.den ≡ at binary64 (magnitude binary64 a + magnitude binary64 b) l =
    at_same binary64 r.num_p r.den (magnitude binary64 a + magnitude binary64 b) l r.den_pos
    (pow_pos (low binary64)) w in
    r.at_rank ∙ flat r.num_p r.num_q r.den r.den_pos z ∙ ap (λ (k : ℕ). inf_bits binary64 + k) s
  where
    flat : (p q c : ℕ) → 0 < c → q ≡ 0 → rank_of binary64 p q c ≡ inf_bits binary64 + at binary64 p c
    flat p q c C z =
        let u : at binary64 (q - p) c ≡ 0 = none_at binary64 (q - p) c C (omega arith) in
        let v : at binary64 (p - q) c ≡ at binary64 p c = ap (λ (k : ℕ). at binary64 k c) (omega arith) in
        omega arith

pub half_rank : (s : Float) (b : ℕ) → Pattern s b → 0 < b → rank binary64 (div binary64 s two64)
    ≡ inf_bits binary64 + at binary64 (magnitude binary64 b) (2 * 2 ^ low binary64)
half_rank s b p h = go s (pattern_value s b p h)
  where
    cross : (m d n l : ℕ) → m * l ≡ n * d → m * 1 * (2 * l) ≡ n * (1 * 2 * d)
    cross m d n l e = ap (λ (z : ℕ). z * (2 * l)) (mul-one m) ∙ mul_left_comm m 2 l ∙ ap (λ (z : ℕ). 2 * z) e
        ∙ sym (mul_left_comm n 2 d)

    go : (s : Float) → HasValue s false (magnitude binary64 b) (2 ^ low binary64) → rank binary64 (div binary64 s two64)
        ≡ inf_bits binary64 + at binary64 (magnitude binary64 b) (2 * 2 ^ low binary64)
    go nan v = absurd v
    go (inf t) v = absurd v
    go (fin true m e) v = absurd (true≢false v.0)
    go (fin false m e) v =
        let q : div binary64 (fin false m e) two64 ≡ round binary64 false (m * up e * 1) (1 * 2 * down e) =
        unfold div in refl in
        ap (rank binary64) q ∙ round_rank binary64 false (m * up e * 1) (1 * 2 * down e)
        ∙ ap (λ (z : ℕ). inf_bits binary64 + z) (at_same binary64 (m * up e * 1) (1 * 2 * down e) (magnitude binary64 b)
        (2 * 2 ^ low binary64) (twice_pos (down e) (down_pos e)) (twice_pos (2 ^ low binary64) (pow_pos (low binary64)))
        (cross (m * up e) (down e) (magnitude binary64 b) (2 ^ low binary64) v.1))

-- ---- four times, sharpened
quadruple_is : (x : Float) (v : Float) → mul binary64 x four64 ≡ v → NonNegative v
    → quadruple x ≡ div binary64 (add binary64 (next_down v) (next_up v)) two64
quadruple_is x v e s =
    middle_ends (degenerate x) (degenerate four64)
    ∙ ap (λ (z : Float). div binary64 (add binary64 (next_down (least z z z z)) (next_up (greatest z z z z))) two64) e
    ∙ ap (λ (z : Float). div binary64 (add binary64 (next_down z) (next_up (greatest v v v v))) two64) (same_four v s).0
    ∙ ap (λ (z : Float). div binary64 (add binary64 (next_down v) (next_up z)) two64) (same_four v s).1

quadruple_parts : (x : Float) (b : ℕ) → Pattern x b → 0 < b → T (finite (quadruple x))
    → Pattern (quadruple x) (doubled binary64 (doubled binary64 b))
    × (doubled binary64 (doubled binary64 (doubled binary64 b)) < inf_bits binary64)
quadruple_parts x b p h f =
    let l = 2 ^ low binary64 in
    let d = doubled binary64 (doubled binary64 b) in
    let D : 0 < d = doubled_some (doubled binary64 b) (doubled_some b h) in
    let v = round binary64 false (magnitude binary64 d) l in
    let S = round_nonneg binary64 (magnitude binary64 d) l in
    let e = quadruple_is x v (times4 x b p h) S in
    let s = add binary64 (next_down v) (next_up v) in
    let fm : T (finite (div binary64 s two64)) = subst (λ (z : Float). T (finite z)) e f in
    let fs = half_finite s fm in
    let fd = sum_finite (next_down v) (next_up v) fs in
    let fv = up_of_finite v S fd.1 in
    let pv = own_pattern v d refl fv in
    let c = d - 1 in
    let pl : Pattern (next_down v) c = record {
      is_float = down_fits v;
      is-finite = fd.0;
      at_rank = omega (arith, down_rank v pv.is_float fd.0, pv.at_rank);
    } in
    let ph : Pattern (next_up v) (c + 1 + 1) = record {
      is_float = up_fits v;
      is-finite = fd.1;
      at_rank = omega (arith, up_rank v pv.is_float fd.1, pv.at_rank);
    } in
    let sp = sum_rank (next_down v) (next_up v) c (c + 1 + 1) pl ph in
    let ts = add-fits binary64 (next_down v) (next_up v) in
    let su : at binary64 (magnitude binary64 c + magnitude binary64 (c + 1 + 1)) l < inf_bits binary64 =
    omega (arith, rank_in binary64 s ts fs, sp) in
    let c1 : c + 1 ≡ d = omega arith in
    let sd : at binary64 (magnitude binary64 c + magnitude binary64 (c + 1 + 1)) l ≡ doubled binary64 d =
    around c su ∙ ap (doubled binary64) c1 in
    let ps : Pattern s (doubled binary64 d) =
    record { is_float = ts; is-finite = fs; at_rank = sp ∙ ap (λ (z : ℕ). inf_bits binary64 + z) sd } in
    let hp = half_rank s (doubled binary64 d) ps (doubled_some d D) in
    let hs : at binary64 (magnitude binary64 (doubled binary64 d)) (2 * l) ≡ at binary64 (magnitude binary64 d) l =
    at_same binary64 (magnitude binary64 (doubled binary64 d))
    (2 * l) (magnitude binary64 d) l (twice_pos (2 ^ low binary64) (pow_pos (low binary64))) (pow_pos (low binary64))
    (halve (magnitude binary64 (doubled binary64 d)) (magnitude binary64 d) l (magnitude_doubled binary64 d)) in
    let vv : at binary64 (magnitude binary64 d) l ≡ d =
    at_own d (pattern_under (round_pattern (magnitude binary64 d) l fv)) in (
      subst (λ (z : Float). Pattern z d) (sym e) (record {
        is_float = div-fits binary64 s two64;
        is-finite = fm;
        at_rank = hp ∙ ap (λ (z : ℕ). inf_bits binary64 + z) (hs ∙ vv);
      }),
      pattern_under ps,
    )
  where
    halve : (a b l : ℕ) → a ≡ 2 * b → a * l ≡ b * (2 * l)
    halve a b l e = ap (λ (z : ℕ). z * l) e ∙ ap (λ (z : ℕ). z * l) (mul_comm 2 b) ∙ mul_assoc b 2 l

-- where it is finite it is exactly four times as large
pub quadruple_exact : (x : Float) (b : ℕ) → Pattern x b → 0 < b → T (finite (quadruple x))
    → Pattern (quadruple x) (doubled binary64 (doubled binary64 b))
quadruple_exact x b p h f = (quadruple_parts x b p h f).0

-- the same in units
pub quadruple_units : (x : Float) (b : ℕ) → Pattern x b → 0 < b → T (finite (quadruple x))
    → P (units_of binary64 (quadruple x)) ≡ 4 * P (units_of binary64 x)
quadruple_units x b p h f = pattern-P (quadruple_exact x b p h f)
    ∙ omega (arith, magnitude_doubled binary64 (doubled binary64 b), magnitude_doubled binary64 b, pattern-P p)

-- ---- so often
pub record Quadrupled (x : Float) (b : ℕ) (t : ℕ) : Type 0 where
  pub pattern : ℕ
  pub pat : Pattern (quadruple_times x t) pattern
  pub some : 0 < pattern
  pub size_is : magnitude binary64 pattern ≡ magnitude binary64 b * 2 ^ (2 * t)

pub quadruples : (x : Float) (b : ℕ) → Pattern x b → 0 < b → (t : ℕ)
    → ((i : ℕ) → i ≤ t → T (finite (quadruple_times x i))) → Quadrupled x b t
unfolding quadruple_times
quadruples x b p h zero f = record { pattern = b; pat = p; some = h; size_is = sym (mul-one (magnitude binary64 b)) }
quadruples x b p h (suc t) f =
    let r = quadruples x b p h t (λ i k. f i (le_trans k (le_of_lt (lt-suc_self t)))) in
    let c = r.pattern in
    let d = doubled binary64 (doubled binary64 c) in
    record {
      pattern = d;
      pat = quadruple_exact (quadruple_times x t) c r.pat r.some (f (suc t) (le_refl (suc t)));
      some = doubled_some (doubled binary64 c) (doubled_some c r.some);
      size_is = omega (arith, magnitude_doubled binary64 (doubled binary64 c), magnitude_doubled binary64 c)
          ∙ ap (λ (z : ℕ). 4 * z) r.size_is ∙ mul_left_comm 4 (magnitude binary64 b) (2 ^ (2 * t))
          ∙ ap (λ (z : ℕ). magnitude binary64 b * z) (sym (pow-add 2 2 (2 * t)) ∙ ap (λ (z : ℕ). 2 ^ z) (omega arith));
    }

-- at most 1,048 quadruplings stay finite: the 1,049th at the latest does not
pub quadruple_few : (x : Float) (b : ℕ) → Pattern x b → 0 < b → (t : ℕ)
    → ((i : ℕ) → i ≤ t → T (finite (quadruple_times x i))) → t < 1049
quadruple_few x b p h t f =
    let r = quadruples x b p h t f in
    elim (le_or_lt 1049 t) [
      | inr k ↦ k
      | inl k ↦
          let far : 2098 ≤ 2 * t = omega arith in
          let big : 2 ^ 2098 ≤ 2 ^ (2 * t) = pow_mono far in
          let one : 1 * 2 ^ (2 * t) ≤ magnitude binary64 b * 2 ^ (2 * t) =
          mul-le-mul_right (2 ^ (2 * t)) (magnitude_some b h) in
          let under : magnitude binary64 r.pattern < magnitude binary64 (inf_bits binary64) =
          magnitude_lt binary64 r.pattern (inf_bits binary64) (pattern_under r.pat) in
          absurd (not-le_of_lt (subst (λ (z : ℕ). magnitude binary64 r.pattern < z) magnitude_infinity under)
          (le_trans big
          (le_trans (le_of_eq (sym (one-mul (2 ^ (2 * t))))) (le_trans one (le_of_eq (sym r.size_is))))))
    ]

-- ---- a scalar that is not sharp
top_rank : rank binary64 (inf false) ≡ inf_bits binary64 + inf_bits binary64
unfolding rank
top_rank = refl

doubled_under : (b : ℕ) → doubled binary64 (doubled binary64 b) < inf_bits binary64
    → doubled binary64 b < inf_bits binary64
doubled_under b h = elim (le_or_lt (doubled binary64 b) (doubled binary64 (doubled binary64 b))) [
  | inl k ↦ lt_of_le_of_lt k h
  | inr k ↦ absurd (not-le_of_lt (magnitude_lt binary64 (doubled binary64 (doubled binary64 b)) (doubled binary64 b) k)
      (omega (arith, magnitude_doubled binary64 (doubled binary64 b))))
]

pub record Bigger (x : Float) (b : ℕ) : Type 0 where
  pub pattern : ℕ
  pub pat : Pattern x pattern
  pub twice : 2 * magnitude binary64 b ≤ magnitude binary64 pattern

-- [lo, hi] above 0 becomes a sharp one, which is not finite or at least twice hi
pub quadrupled_wide : (mu : Scalar) (a b : ℕ) → Pattern mu.lo a → 0 < a → Pattern mu.hi b → 0 < b
    → T (finite (quadrupled mu).lo) → Bigger (quadrupled mu).lo b
quadrupled_wide mu a b pa ha pb hb f =
    let l = 2 ^ low binary64 in
    let E = inf_bits binary64 in
    let aa = doubled binary64 (doubled binary64 a) in
    let bb = doubled binary64 (doubled binary64 b) in
    let A : 0 < aa = doubled_some (doubled binary64 a) (doubled_some a ha) in
    let B : 0 < bb = doubled_some (doubled binary64 b) (doubled_some b hb) in
    let x = mul binary64 mu.lo four64 in
    let y = mul binary64 mu.hi four64 in
    let px : rank binary64 x ≡ E + at binary64 (magnitude binary64 aa) l =
    ap (rank binary64) (times4 mu.lo a pa ha) ∙ round_rank binary64 false (magnitude binary64 aa) l in
    let py : rank binary64 y ≡ E + at binary64 (magnitude binary64 bb) l =
    ap (rank binary64) (times4 mu.hi b pb hb) ∙ round_rank binary64 false (magnitude binary64 bb) l in
    let m = least x x y y in
    let g = greatest x x y y in
    let tx = mul-fits binary64 mu.lo four64 in
    let ty = mul-fits binary64 mu.hi four64 in
    let gs = greatest_any x x y y tx tx ty ty in
    let ls = least_any x x y y tx tx ty ty in
    let s = add binary64 (next_down m) (next_up g) in
    let fs = half_finite s f in
    let fd = sum_finite (next_down m) (next_up g) fs in
    let one : (d : ℕ) → 0 < d → 1 ≤ at binary64 (magnitude binary64 d) l = λ d h. at_ge binary64
    (magnitude binary64 d) l 1 (pow_pos (low binary64)) (lit< tt) (mul-le-mul_right l (magnitude_le binary64 1 d h)) in
    let gy = gs.at_s (subst (λ (z : Float). T (not (is_nan z))) (sym (times4 mu.hi b pb hb))
    (round_number binary64 false (magnitude binary64 bb) l)) in
    let down = down_rank m ls.number.0 fd.0 in
    let up' = up_rank g gs.number.0 fd.1 in
    let inn = rank_in binary64 (next_up g) (up_fits g) fd.1 in
    let under : at binary64 (magnitude binary64 bb) l < E = omega (arith, py) in
    let own = at_own bb under in
    let bbE = pat_infinity own under in
    let lowest : E + 1 ≤ rank binary64 m = either_least (λ z. E + 1 ≤ rank binary64 z) x x y y
    (le_trans (lit≤ tt) (le_of_eq (sym top_rank))) (omega (arith, px, one aa A)) (omega (arith, px, one aa A))
    (omega (arith, py, one bb B)) (omega (arith, py, one bb B)) in
    let j = rank binary64 (next_down m) - E in
    let k = rank binary64 (next_up g) - E in
    let pl : Pattern (next_down m) j = record { is_float = down_fits m; is-finite = fd.0; at_rank = omega arith } in
    let ph : Pattern (next_up g) k = record { is_float = up_fits g; is-finite = fd.1; at_rank = omega (arith, py) } in
    let bk : magnitude binary64 bb ≤ magnitude binary64 k = magnitude_le binary64 bb k (omega (arith, py)) in
    let S = magnitude binary64 j + magnitude binary64 k in
    let sp = sum_rank (next_down m) (next_up g) j k pl ph in
    let ts = add-fits binary64 (next_down m) (next_up g) in
    let c = at binary64 S l in
    let cb : bb ≤ c = at_ge binary64 S l bb (pow_pos (low binary64)) bbE
    (mul-le-mul_right l (le_trans bk (le_add_left' (magnitude binary64 k) (magnitude binary64 j)))) in
    let ps : Pattern s c = record { is_float = ts; is-finite = fs; at_rank = sp } in
    let hp = half_rank s c ps (lt_of_lt_of_le B cb) in
    let d = at binary64 (magnitude binary64 c) (2 * l) in
    let q : magnitude binary64 (doubled binary64 b) * (2 * l) ≤ magnitude binary64 c * l =
    le_trans (le_of_eq (quad (magnitude binary64 (doubled binary64 b)) (magnitude binary64 bb) l
    (magnitude_doubled binary64 (doubled binary64 b)))) (mul-le-mul_right l (magnitude_le binary64 bb c cb)) in
    let db : doubled binary64 b ≤ d = at_ge binary64 (magnitude binary64 c) (2 * l) (doubled binary64 b)
    (twice_pos l (pow_pos (low binary64))) (doubled_under b bbE) q in
    record {
      pattern = d;
      pat = record { is_float = div-fits binary64 s two64; is-finite = f; at_rank = hp };
      twice =
          le_trans (le_of_eq (sym (magnitude_doubled binary64 b))) (magnitude_le binary64 (doubled binary64 b) d db);
    }
  where
    pat_infinity : {a b : ℕ} → a ≡ b → a < inf_bits binary64 → b < inf_bits binary64
    pat_infinity e h = omega arith

    le_add_left' : (a b : ℕ) → a ≤ b + a
    le_add_left' a b = omega arith

    quad : (a b l : ℕ) → b ≡ 2 * a → a * (2 * l) ≡ b * l
    quad a b l e = mul_left_comm a 2 l ∙ sym (mul_assoc 2 a l) ∙ ap (λ (z : ℕ). z * l) (sym e)

-- ---- so often, from a scalar that is not sharp
pub few_from : (x : Float) (b h : ℕ) → Pattern x b → 2 ^ h ≤ magnitude binary64 b → (t : ℕ)
    → ((i : ℕ) → i ≤ t → T (finite (quadruple_times x i))) → h + 2 * t < 2098
few_from x b h p k t f =
    let r = quadruples x b p (magnitude_only b (lt_of_lt_of_le (pow_pos h) k)) t f in
    elim (le_or_lt 2098 (h + 2 * t)) [
      | inr j ↦ j
      | inl j ↦
          let big : 2 ^ 2098 ≤ 2 ^ (h + 2 * t) = pow_mono j in
          let one : 2 ^ h * 2 ^ (2 * t) ≤ magnitude binary64 b * 2 ^ (2 * t) = mul-le-mul_right (2 ^ (2 * t)) k in
          let under : magnitude binary64 r.pattern < magnitude binary64 (inf_bits binary64) =
          magnitude_lt binary64 r.pattern (inf_bits binary64) (pattern_under r.pat) in
          absurd (not-le_of_lt (subst (λ (z : ℕ). magnitude binary64 r.pattern < z) magnitude_infinity under)
          (le_trans big (le_trans (le_of_eq (pow-add 2 h (2 * t))) (le_trans one (le_of_eq (sym r.size_is))))))
    ]

two_units : (a b : ℕ) → 0 < a → a < b → 2 ≤ magnitude binary64 b
two_units a b h k = omega (arith, magnitude_some a h, magnitude_lt binary64 a b k)

-- from [lo, hi] with 0 < lo < hi: after the first at most 1,047 more are finite, so that the 1,049th is not
pub quadrupled_few_wide : (mu : Scalar) (a b : ℕ) → Pattern mu.lo a → 0 < a → a < b → Pattern mu.hi b → (t : ℕ)
    → ((i : ℕ) → i ≤ t → T (finite (quadruple_times (quadrupled mu).lo i))) → t < 1048
quadrupled_few_wide mu a b pa ha k pb t f =
    let first : T (finite (quadrupled mu).lo) = unfold quadruple_times in f 0 zero-le in
    let w = quadrupled_wide mu a b pa ha pb (omega arith) first in
    let g : 2 ^ 2 ≤ magnitude binary64 w.pattern = omega (arith, w.twice, two_units a b ha k) in
    omega (arith, few_from (quadrupled mu).lo w.pattern 2 w.pat g t f)

-- ---- and it is finite where 8 times as much is
d_under : (d : ℕ) → 0 < d → d < doubled binary64 d
d_under d h = elim (le_or_lt (doubled binary64 d) d) [
  | inr k ↦ k
  | inl k ↦ absurd (not-le_of_lt (twice_more (magnitude binary64 d) (magnitude_some d h))
      (le_trans (le_of_eq (sym (magnitude_doubled binary64 d))) (magnitude_le binary64 (doubled binary64 d) d k)))
]
  where
    twice_more : (n : ℕ) → 0 < n → n < 2 * n
    twice_more n h = omega arith

nonneg_fin : (v : Float) (i : ℕ) → NonNegative v → rank binary64 v ≡ inf_bits binary64 + i → i < inf_bits binary64
    → T (finite v)
unfolding NonNegative
nonneg_fin v i (inl e) q h = absurd (far (sym top_rank ∙ ap (rank binary64) (sym e) ∙ q) h)
  where
    far : inf_bits binary64 + inf_bits binary64 ≡ inf_bits binary64 + i → i < inf_bits binary64 → ⊥
    far e h = omega arith
nonneg_fin v i (inr w) q h = subst (λ (z : Float). T (finite z)) (sym w.2) tt

-- the neighbours' sum stays below an infinity
around_under : (c : ℕ) → doubled binary64 (c + 1) < inf_bits binary64
    → at binary64 (magnitude binary64 c + magnitude binary64 (c + 1 + 1)) (2 ^ low binary64) < inf_bits binary64
around_under c h = elim (magnitude_around binary64 c) [
  | inl e ↦
      let q : magnitude binary64 c + magnitude binary64 (c + 1 + 1) ≡ magnitude binary64 (doubled binary64 (c + 1)) =
      e ∙ sym (magnitude_doubled binary64 (c + 1)) in
      lt_of_le_of_lt (at_most binary64 (magnitude binary64 c + magnitude binary64 (c + 1 + 1)) (2 ^ low binary64)
      (doubled binary64 (c + 1)) (pow_pos (low binary64)) h (mul-le-mul_right (2 ^ low binary64) (le_of_eq q))) h
  | inr w ↦
      let x = w.0 in
      let H = hid binary64 in
      let y = x + 3 in
      let g : doubled binary64 (c + 1) ≡ y * H = magnitude_inj binary64 (doubled binary64 (c + 1)) (y * H)
      (magnitude_doubled binary64 (c + 1) ∙ sym (foot_magnitude binary64 x (c + 1) w.1) ∙ sym (foot_three x)) in
      let k : y * H + 1 < inf_bits binary64 = room y (subst (λ (z : ℕ). z < inf_bits binary64) g h) in
      let m : magnitude binary64 c + magnitude binary64 (c + 1 + 1) ≤ magnitude binary64 (y * H + 1) =
      le_trans (le_of_eq w.2) (fit x) in
      lt_of_le_of_lt (at_most binary64 (magnitude binary64 c + magnitude binary64 (c + 1 + 1)) (2 ^ low binary64)
      (y * H + 1) (pow_pos (low binary64)) k (mul-le-mul_right (2 ^ low binary64) m)) k
]
  where
    room : (y : ℕ) → y * hid binary64 < inf_bits binary64 → y * hid binary64 + 1 < inf_bits binary64
    room y h = omega arith

    foot_three : (x : ℕ) → magnitude binary64 ((x + 3) * hid binary64) ≡ 4 * hid binary64 * 2 ^ x
    foot_three x =
        let e : (x + 3) * hid binary64 ≡ (x + 1 + 2) * hid binary64 = ap (λ (z : ℕ). z * hid binary64) (sums x) in
        omega (arith, foot_magnitude binary64 (x + 1) ((x + 3) * hid binary64) e, pow-add 2 x 1)
      where
        sums : (x : ℕ) → x + 3 ≡ x + 1 + 2
        sums x = omega arith

    fit : (x : ℕ) → (4 * hid binary64 + 1) * 2 ^ x ≤ magnitude binary64 ((x + 3) * hid binary64 + 1)
    fit x =
        let e : suc (suc (suc x)) * hid binary64 + 0 ≡ (x + 3) * hid binary64 =
        plus (suc (suc (suc x)) * hid binary64) ∙ ap (λ (z : ℕ). z * hid binary64) (sucs x) in
        let g = gap_of binary64 (suc (suc (suc x))) 0 ((x + 3) * hid binary64) (lit< tt) e in
        let o : x ≤ suc (suc x) = omega arith in
        let w : 2 ^ x ≤ 2 ^ suc (suc x) = pow_mono o in
        omega (arith, g, w, foot_three x)
      where
        plus : (n : ℕ) → n + 0 ≡ n
        plus n = omega arith

        sucs : (x : ℕ) → suc (suc (suc x)) ≡ x + 3
        sucs x = omega arith

sum_fin : (s : Float) (i : ℕ) → T (not (is_nan s)) → rank binary64 s ≡ inf_bits binary64 + i → i < inf_bits binary64
    → T (finite s)
unfolding rank is_nan
sum_fin nan i n e h = n
sum_fin (inf true) i n e h = absurd (omega (arith, e))
sum_fin (inf false) i n e h = absurd (omega (arith, e))
sum_fin (fin s m d) i n e h = tt

half_round : (m : ℕ) (e : ℤ) → T (fits binary64 (fin false m e))
    → T (finite (round binary64 false (m * up e * 1) (1 * 2 * down e)))
half_round m e t =
    let a = m * up e * 1 in
    let c = 1 * 2 * down e in
    let b = to_bits binary64 (fin false m e) in
    let B = bits_under binary64 m e t in
    let i : at binary64 a c ≤ b = at_most binary64 a c b (twice_pos (down e) (down_pos e)) B
    (half (m * up e) (2 ^ low binary64) (magnitude binary64 b) (down e) (bits_val binary64 m e t).1) in
    nonneg_fin (round binary64 false a c) (at binary64 a c) (round_nonneg binary64 a c) (round_rank binary64 false a c)
    (lt_of_le_of_lt i B)
  where
    half : (n l g d : ℕ) → n * l ≡ g * d → n * 1 * l ≤ g * (1 * 2 * d)
    half n l g d e = le_trans (le_of_eq (ap (λ (z : ℕ). z * l) (mul-one n) ∙ e)) (mul-le-mul_left g (twice d))
      where
        twice : (d : ℕ) → d ≤ 1 * 2 * d
        twice d = omega arith

half_fin : (s : Float) → T (fits binary64 s) → T (finite s) → T (finite (div binary64 s two64))
unfolding div
half_fin nan t f = f
half_fin (inf s) t f = f
half_fin (fin false m e) t f = half_round m e t
half_fin (fin true m e) t f =
    subst (λ (z : Float). T (finite z)) (sym (neg_round binary64 (m * up e * 1) (1 * 2 * down e)))
    (neg_finite (round binary64 false (m * up e * 1) (1 * 2 * down e)) (half_round m e (positive_fits m e t)))

-- it is finite where 8 times x is below 2 ^ 1024, and only there
pub quadruple_finite : (x : Float) (b : ℕ) → Pattern x b → 0 < b
    → 8 * magnitude binary64 b < 2 ^ 1024 * 2 ^ low binary64 → T (finite (quadruple x))
quadruple_finite x b p h k =
    let l = 2 ^ low binary64 in
    let E = inf_bits binary64 in
    let d = doubled binary64 (doubled binary64 b) in
    let D : 0 < d = doubled_some (doubled binary64 b) (doubled_some b h) in
    let md : magnitude binary64 (doubled binary64 d) ≡ 8 * magnitude binary64 b = eight (magnitude binary64 b)
    (magnitude_doubled binary64 b) (magnitude_doubled binary64 (doubled binary64 b)) (magnitude_doubled binary64 d) in
    let dd : doubled binary64 d < E =
    under (doubled binary64 d) (lt_of_le_of_lt (le_of_eq md) (lt_of_lt_of_le k (le_of_eq (sym magnitude_infinity)))) in
    let dl = d_under d D in
    let v = round binary64 false (magnitude binary64 d) l in
    let S = round_nonneg binary64 (magnitude binary64 d) l in
    let av : at binary64 (magnitude binary64 d) l ≤ d = at_most binary64 (magnitude binary64 d) l d
    (pow_pos (low binary64)) (lt_of_le_of_lt (le_of_lt dl) dd) (le_refl (magnitude binary64 d * l)) in
    let fv = nonneg_fin v (at binary64 (magnitude binary64 d) l) S (round_rank binary64 false (magnitude binary64 d) l)
    (lt_of_le_of_lt av (lt_of_le_of_lt (le_of_lt dl) dd)) in
    let pv = own_pattern v d refl fv in
    let c = d - 1 in
    let fl = down_finite v S pv.is_float in
    let up' = rank_up v pv.is_float (fin_rising v fv) in
    let fh : T (finite (next_up v)) = elim (up_any v pv.is_float (nonneg_number v S).0) [
      | inl y ↦ y
      | inr e ↦ absurd (far (ap (rank binary64) e ∙ top_rank) up' pv.at_rank (lt_of_le_of_lt dl dd))
    ] in
    let pl : Pattern (next_down v) c = record {
      is_float = down_fits v;
      is-finite = fl;
      at_rank = omega (arith, down_rank v pv.is_float fl, pv.at_rank);
    } in
    let ph : Pattern (next_up v) (c + 1 + 1) =
    record { is_float = up_fits v; is-finite = fh; at_rank = omega (arith, up', pv.at_rank) } in
    let sp = sum_rank (next_down v) (next_up v) c (c + 1 + 1) pl ph in
    let c1 : c + 1 ≡ d = omega arith in
    let su = around_under c (subst (λ (z : ℕ). doubled binary64 z < inf_bits binary64) (sym c1) dd) in
    let s = add binary64 (next_down v) (next_up v) in
    let fs : T (finite s) = sum_fin s (at binary64 (magnitude binary64 c + magnitude binary64 (c + 1 + 1)) l)
    (add_number (next_down v) (next_up v) fl fh).1 sp su in
    let ps : Pattern s (at binary64 (magnitude binary64 c + magnitude binary64 (c + 1 + 1)) l) =
    record { is_float = add-fits binary64 (next_down v) (next_up v); is-finite = fs; at_rank = sp } in
    subst (λ (z : Float). T (finite z)) (sym (quadruple_is x v (times4 x b p h) S)) (half_fin s ps.is_float fs)
  where
    eight : (n : ℕ) {a b c : ℕ} → a ≡ 2 * n → b ≡ 2 * a → c ≡ 2 * b → c ≡ 8 * n
    eight n e f g = omega arith

    under : (i : ℕ) → magnitude binary64 i < magnitude binary64 (inf_bits binary64) → i < inf_bits binary64
    under i h = elim (le_or_lt (inf_bits binary64)
        i) [ inr y ↦ y | inl y ↦ absurd (not-le_of_lt h (magnitude_le binary64 (inf_bits binary64) i y)) ]

    fin_rising : (v : Float) → T (finite v) → T (rising v)
    fin_rising (fin s m e) h = tt
    fin_rising nan h = elim h [ ]
    fin_rising (inf _) h = elim h [ ]

    far : {p q d : ℕ} → p ≡ inf_bits binary64 + inf_bits binary64 → p ≡ q + 1 → q ≡ inf_bits binary64 + d
        → suc d < inf_bits binary64 → ⊥
    far e f g h = omega arith

pub quadruple_only : (x : Float) (b : ℕ) → Pattern x b → 0 < b → T (finite (quadruple x))
    → 8 * magnitude binary64 b < 2 ^ 1024 * 2 ^ low binary64
quadruple_only x b p h f =
    let d = doubled binary64 (doubled binary64 b) in
    let u : magnitude binary64 (doubled binary64 d) < magnitude binary64 (inf_bits binary64) =
    magnitude_lt binary64 (doubled binary64 d) (inf_bits binary64) (quadruple_parts x b p h f).1 in
    lt_of_le_of_lt (le_of_eq (eight (magnitude binary64 b)
    (magnitude_doubled binary64 b) (magnitude_doubled binary64 (doubled binary64 b)) (magnitude_doubled binary64 d)))
    (subst (λ (z : ℕ). magnitude binary64 (doubled binary64 d) < z) magnitude_infinity u)
  where
    eight : (n : ℕ) {a b c : ℕ} → a ≡ 2 * n → b ≡ 2 * a → c ≡ 2 * b → 8 * n ≡ c
    eight n e f g = omega arith
