-- A positive scalar stays positive where four times it is finite, and where a third of it is definitely positive. Four
-- times is exact for a sharp one, so few quadruplings in a row are finite.
use Rattle.std.proofs.Common.{◌≡◌, ℕ, zero, suc, ◌+◌, ◌*◌, ◌^◌, ◌<◌, ◌≤◌, Bool, true, false, not, ◌&&◌, T, ℤ, pos, ◌*ℤ◌}
use Rattle.std.proofs.Common.{sym, refl, ap, ◌∙◌, subst, inl, inr, suc-le-suc, zero-le, le_refl, lt_of_lt_of_le}
use Rattle.std.proofs.Common.{mul-le-mul_right, mul_comm, eq-or-lt_of_le, not-le_of_lt, arith, lit<, pow_pos}
use lib.Ieee.{Float, nan, inf, fin, binary64, low, lt, le, eq, ne, fits, to_bits, of_bits, is_nan, round, neg, mul, add}
use lib.Ieee.{sum, div, of_int}
use lib.Ieee.Bits.{is_true, of_bits-to_bits}
use lib.Ieee.Fits.{and_l, and_r}
use lib.Ieee.Scale.{finite}
use lib.Ieee.Order.{le_of_values}
use lib.Ieee.Positive.{positive, above, above_of_le, positive_of_value}
use Rattle.interval.specs.declared.Scalar.{Scalar}
use Rattle.interval.specs.Scaling.{is_positive, quadrupled_times}
use Rattle.interval.specs.Enclosure.{Fits, units_of}
use Rattle.interval.specs.Float.{least, greatest, fmin, fmax, lesser, greater}
use Rattle.interval.specs.Pattern.{inf_bits, magnitude}
use Rattle.interval.specs.Scalar.{zero64, zero_s, definitely_greater, degenerate, from_i64, div_of, mul_of, inverse}
use Rattle.interval.specs.Result.{ok}
use Rattle.interval.specs.Scaling.{four64, three64, quadruple, quadrupled, quadruple_times, third}
use Rattle.interval.specs.Step.{next_up}
use Rattle.interval.proofs.Integers.{P, P-scale, N-scale}
use Rattle.interval.proofs.Corners.{ext}
use Rattle.interval.proofs.Patterns.{bits_pos}
use Rattle.interval.proofs.Rounding.{magnitude_lt, le_values}
use Rattle.interval.proofs.Rank.{rank, le_or_lt}
use Rattle.interval.proofs.Order.{nlt_rank}
use Rattle.interval.proofs.Enclosure.Sqrt.{zero_rank}
use Rattle.interval.proofs.OneSided.Ends.{zero_fits}
use Rattle.interval.proofs.Spacing.{magnitude_le, doubled, magnitude_doubled}
use Rattle.interval.proofs.Scaling.Quadruple.{Pattern, pattern_value, magnitude_some, magnitude_only}
use Rattle.interval.proofs.Scaling.Quadruple.{quadruple_exact, quadrupled_wide, few_from, quadruple_units}
use Rattle.interval.proofs.Scaling.Quadruple.{pattern-N}
use Rattle.interval.proofs.Scaling.Third.{third_above}
use Rattle.interval.proofs.Tests.{positive_finite}

-- finite with 0 < lo ≤ hi, by the patterns of its ends
pub record Positive (mu : Scalar) : Type 0 where
  pub a : ℕ
  pub b : ℕ
  pub lo_pattern : Pattern mu.lo a
  pub hi_pattern : Pattern mu.hi b
  pub some : 0 < a
  pub order : a ≤ b

own_pattern : (m : ℕ) (e : ℤ) → T (fits binary64 (fin false (suc m) e))
    → Pattern (fin false (suc m) e) (to_bits binary64 (fin false (suc m) e))
unfolding rank
own_pattern m e t = record { is_float = t; is-finite = tt; at_rank = refl }

pub pattern_of : (x : Float) → T (fits binary64 x) → T (finite x) → T (lt zero64 x) → (b : ℕ) × Pattern x b × (0 < b)
pattern_of x t f h =
    let w = positive_finite x f (is_true (lt zero64 x) h) in
    subst (λ (z : Float). T (fits binary64 z) → (b : ℕ) × Pattern z b × (0 < b)) (sym w.2)
    (λ (u : T (fits binary64 (fin false (suc w.0) w.1))).
    (to_bits binary64 (fin false (suc w.0) w.1), own_pattern w.0 w.1 u, bits_pos binary64 w.0 w.1 u)) t

above_pattern : (z : Float) → T (fits binary64 z) → T (finite z) → T (above z) → (b : ℕ) × Pattern z b × (0 < b)
above_pattern nan t f h = absurd f
above_pattern (inf s) t f h = absurd f
above_pattern (fin true m e) t f h = absurd h
above_pattern (fin false zero e) t f h = absurd h
above_pattern (fin false (suc m) e) t f h =
    (to_bits binary64 (fin false (suc m) e), own_pattern m e t, bits_pos binary64 m e t)

pub positive_of : (mu : Scalar) → Fits mu → T (is_positive mu) → Positive mu
positive_of mu t h =
    let A = finite mu.lo in
    let B = finite mu.hi in
    let C = lt zero64 mu.lo in
    let D = le mu.lo mu.hi in
    let abc : T (A && B && C) = and_l (A && B && C) D h in
    let ab : T (A && B) = and_l (A && B) C abc in
    let fa : T A = and_l A B ab in
    let fb : T B = and_r A B ab in
    let c : T C = and_r (A && B) C abc in
    let d : T D = and_r (A && B && C) D h in
    let x = pattern_of mu.lo t.0 fa c in
    let vx = pattern_value mu.lo x.0 x.1 x.2 in
    let px : T (positive mu.lo) =
    positive_of_value mu.lo (magnitude binary64 x.0) (2 ^ low binary64) vx (magnitude_some x.0 x.2) in
    let y = above_pattern mu.hi t.1 fb (above_of_le mu.lo mu.hi px d) in
    let vy = pattern_value mu.hi y.0 y.1 y.2 in
    let o = le_values mu.lo mu.hi (magnitude binary64 x.0) (magnitude binary64 y.0) (2 ^ low binary64)
    (pow_pos (low binary64)) vx vy d in
    record {
      a = x.0;
      b = y.0;
      lo_pattern = x.1;
      hi_pattern = y.1;
      some = x.2;
      order = elim (le_or_lt x.0
          y.0) [ inl k ↦ k | inr k ↦ absurd (not-le_of_lt (magnitude_lt binary64 y.0 x.0 k) o) ];
    }

pattern_is : (x : Float) (a : ℕ) → Pattern x a → 0 < a → x ≡ of_bits binary64 a
unfolding rank
pattern_is nan a p h = absurd p.is-finite
pattern_is (inf s) a p h = absurd p.is-finite
pattern_is (fin true m e) a p h = absurd (omega (arith, p.at_rank))
pattern_is (fin false m e) a p h =
    let q : to_bits binary64 (fin false m e) ≡ a = omega (arith, p.at_rank) in
    sym (of_bits-to_bits binary64 (fin false m e) p.is_float) ∙ ap (of_bits binary64) q

pub pattern_one : (x y : Float) (a : ℕ) → Pattern x a → Pattern y a → 0 < a → x ≡ y
pattern_one x y a p q h = pattern_is x a p h ∙ sym (pattern_is y a q h)

-- four times it where that is finite, and a third where that is definitely positive, are positive
pub quadrupled_positive : (mu : Scalar) → Positive mu → T (finite (quadrupled mu).lo) → Positive (quadrupled mu)
quadrupled_positive mu d f =
    let w = quadrupled_wide mu d.a d.b d.lo_pattern d.some d.hi_pattern
    (lt_of_lt_of_le d.some d.order) f in
    let c : 0 < w.pattern = magnitude_only w.pattern
    (omega (arith, w.twice, magnitude_some d.b (lt_of_lt_of_le d.some d.order))) in
    record {
      a = w.pattern;
      b = w.pattern;
      lo_pattern = w.pat;
      hi_pattern = w.pat;
      some = c;
      order = le_refl w.pattern;
    }

pub third_positive : (mu : Scalar) → Positive mu → T (definitely_greater (third mu) zero_s) → Positive (third mu)
third_positive mu d h =
    let w =
    third_above mu d.a d.b d.lo_pattern d.some d.hi_pattern (lt_of_lt_of_le d.some d.order) h in
    record { a = w.0; b = w.0; lo_pattern = w.1; hi_pattern = w.1; some = w.2; order = le_refl w.0 }

-- ---- how often four times it is finite
after_one : (mu : Scalar) (t : ℕ) → quadrupled_times mu (suc t) ≡ degenerate (quadruple_times (quadrupled mu).lo t)
unfolding quadrupled_times quadruple_times
after_one mu zero = refl
after_one mu (suc t) = ap quadrupled (after_one mu t)

first_size : (mu : Scalar) (d : Positive mu) → T (finite (quadrupled mu).lo)
    → (b : ℕ) × Pattern (quadrupled mu).lo b × (2 ^ 2 ≤ magnitude binary64 b)
first_size mu d f = elim (eq-or-lt_of_le d.order) [
  | inr k ↦
      let w = quadrupled_wide mu d.a d.b d.lo_pattern d.some d.hi_pattern
      (lt_of_lt_of_le d.some d.order) f in (
        w.pattern,
        w.pat,
        omega (arith, w.twice, magnitude_some d.a d.some, magnitude_lt binary64 d.a d.b k),
      )
  | inl e ↦
      let same : mu.lo ≡ mu.hi = pattern_one mu.lo mu.hi d.a d.lo_pattern
      (subst (Pattern mu.hi) (sym e) d.hi_pattern) d.some in
      let is : (quadrupled mu).lo ≡ quadruple mu.lo =
      ap (λ (z : Float). (quadrupled (record { lo = mu.lo; hi = z })).lo) (sym same) in
      let w = quadruple_exact mu.lo d.a d.lo_pattern d.some (subst (λ (z : Float). T (finite z)) is f) in (
        doubled binary64 (doubled binary64 d.a),
        subst (λ (z : Float). Pattern z (doubled binary64 (doubled binary64 d.a))) (sym is) w,
        omega (
          arith,
          magnitude_doubled binary64 (doubled binary64 d.a),
          magnitude_doubled binary64 d.a,
          magnitude_some d.a d.some,
        ),
      )
]

at_first : (x : Float) (t : ℕ) → ((i : ℕ) → i ≤ t → T (finite (quadruple_times x i))) → T (finite x)
unfolding quadruple_times
at_first x t g = g 0 zero-le

-- at most 1,048 quadruplings in a row are finite: the 1,049th at the latest is not
pub quadrupled_few : (mu : Scalar) → Positive mu → (t : ℕ)
    → ((i : ℕ) → i ≤ t → T (finite (quadrupled_times mu i).lo)) → t < 1049
quadrupled_few mu d zero f = lit< tt
quadrupled_few mu d (suc t) f =
    let g : (i : ℕ) → i ≤ t → T (finite (quadruple_times (quadrupled mu).lo i)) =
    λ i k. subst (λ (z : Scalar). T (finite z.lo)) (after_one mu i) (f (suc i) (suc-le-suc k)) in
    let one : T (finite (quadrupled mu).lo) = at_first (quadrupled mu).lo t g in
    let w = first_size mu d one in
    omega (arith, few_from (quadrupled mu).lo w.0 2 w.1 w.2 t g)

-- ---- examples: the scalar of P10 is positive; 2 ^ 1021 goes to an infinity although 2 ^ 1023 and the next float are
-- finite, since the sum of the ends overflows
first-mu :
    T (is_positive (record { lo = of_bits binary64 4562254508917369339; hi = of_bits binary64 4562254508917369341 }))
unfolding of_bits lt le
first-mu = tt

early_top : quadruple (fin false 1 (pos 1021)) ≡ inf false
unfolding next_up neg mul add sum div round to_bits of_bits lt eq ne least greatest fmin fmax lesser greater
early_top = refl

late_finite : quadruple (fin false 1 (pos 1020)) ≡ fin false 1 (pos 1022)
unfolding next_up neg mul add sum div round to_bits of_bits lt eq ne least greatest fmin fmax lesser greater
late_finite = refl

-- ---- the test, from the patterns
both : (x y : Bool) → T x → T y → T (x && y)
both true true p q = tt
both true false p q = q
both false y p q = p

not_nan : (x : Float) → T (finite x) → T (not (is_nan x))
unfolding is_nan
not_nan (fin s m e) h = tt
not_nan nan h = elim h [ ]
not_nan (inf _) h = elim h [ ]

above_zero : (x : Float) (a : ℕ) → Pattern x a → 0 < a → T (lt zero64 x)
above_zero x a p h = go (lt zero64 x) refl
  where
    go : (b : Bool) → lt zero64 x ≡ b → T b
    go true e = tt
    go false e =
        absurd (far (nlt_rank zero64 x zero_fits.0 p.is_float (not_nan zero64 tt) (not_nan x p.is-finite)
        (subst (λ (z : Bool). T (not z)) (sym e) tt)) (zero_rank false (pos 0) zero_fits.0) p.at_rank)
      where
        far : {i j : ℕ} → i ≤ j → j ≡ inf_bits binary64 → i ≡ inf_bits binary64 + a → ⊥
        far k e f = omega arith

pub positive_is : (mu : Scalar) → Positive mu → T (is_positive mu)
positive_is mu d =
    let B : 0 < d.b = lt_of_lt_of_le d.some d.order in
    let l = 2 ^ low binary64 in
    both (finite mu.lo && finite mu.hi && lt zero64 mu.lo) (le mu.lo mu.hi)
    (both (finite mu.lo && finite mu.hi) (lt zero64 mu.lo)
    (both (finite mu.lo) (finite mu.hi) d.lo_pattern.is-finite d.hi_pattern.is-finite)
    (truly (lt zero64 mu.lo) (above_zero mu.lo d.a d.lo_pattern d.some)))
    (le_of_values mu.lo mu.hi (magnitude binary64 d.a) l (magnitude binary64 d.b) l (pow_pos (low binary64))
    (pow_pos (low binary64)) (pattern_value mu.lo d.a d.lo_pattern d.some) (pattern_value mu.hi d.b
    d.hi_pattern B) (mul-le-mul_right l (magnitude_le binary64 d.a d.b d.order)))
  where
    truly : (b : Bool) → T b → T b
    truly b h = h

-- ---- the laws for callers, by the test `is_positive`
pub keeps_positive : (x : Scalar) → Fits x → T (is_positive x) → T (finite (quadrupled x).lo)
    → T (is_positive (quadrupled x))
keeps_positive x t h f = positive_is (quadrupled x) (quadrupled_positive x (positive_of x t h) f)

pub third_keeps : (x : Scalar) → Fits x → T (is_positive x) → T (definitely_greater (third x) zero_s)
    → T (is_positive (third x))
third_keeps x t h k = positive_is (third x) (third_positive x (positive_of x t h) k)

pub few_quadruplings : (x : Scalar) → Fits x → T (is_positive x) → (t : ℕ)
    → ((i : ℕ) → i ≤ t → T (finite (quadrupled_times x i).lo)) → t < 1049
few_quadruplings x t h = quadrupled_few x (positive_of x t h)

pub quadrupled_exact : (x : Float) → Fits (degenerate x) → T (is_positive (degenerate x)) → T (finite (quadruple x))
    → units_of binary64 (quadruple x) ≡ units_of binary64 x *ℤ pos 4
quadrupled_exact x t h f =
    let d = positive_of (degenerate x) t h in
    let q = quadruple_exact x d.a d.lo_pattern d.some f in
    ext (units_of binary64 (quadruple x)) (units_of binary64 x *ℤ pos 4) (quadruple_units x d.a d.lo_pattern
    d.some f ∙ mul_comm 4 (P (units_of binary64 x)) ∙ sym (P-scale (units_of binary64 x) 4))
    (pattern-N q ∙ sym (N-scale (units_of binary64 x) 4 ∙ ap (λ (n : ℕ). n * 4) (pattern-N d.lo_pattern)))

-- the Rust's factors: 4 and 3 as scalars
pub four_is : from_i64 (pos 4) ≡ degenerate four64
unfolding of_int round
four_is = refl

pub third_is : (x : Scalar) → div_of x (from_i64 (pos 3)) ≡ ok (mul_of x (inverse (degenerate three64)))
unfolding of_int round div_of le lt eq
third_is x = refl
