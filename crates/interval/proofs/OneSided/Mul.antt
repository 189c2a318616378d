-- A product holds the products, end by end: an infinite end stands for a number that is large enough, so the law of
-- four finite corners applies. A product of 0 and an infinity is a NaN and is passed over: the other three corners then
-- bound 0, unless one factor is [±0, ±0] and the other [-inf, +inf].
use Rattle.std.proofs.Common.{◌≡◌, ℕ, zero, suc, ◌+◌, ◌*◌, ◌/◌, ◌^◌, ◌<◌, ◌≤◌, Bool, true, false, cond, not, T, eqb}
use Rattle.std.proofs.Common.{◌⊎◌, ℤ, pos, negsuc, ◌*ℤ◌, neg_ℤ, sym, refl, ap, ◌∙◌, subst, inl, inr, le_trans, le_of_eq}
use Rattle.std.proofs.Common.{mul-le-mul_right, mul_comm, mul-le-mul_left, one-mul, mul-zero, zero-mul, mul-one, arith}
use Rattle.std.proofs.Common.{pow_pos}
use lib.IntN.{*ℤ_comm}
use lib.Signed.{le_z}
use lib.Ieee.{Float, nan, inf, fin, binary64, low, up, down, round, mul, neg, unlike, fits, to_bits, is_nan}
use lib.Ieee.Fits.{neg-fits, mul-fits}
use lib.Ieee.Scale.{finite}
use Rattle.interval.specs.declared.Scalar.{Scalar}
use Rattle.interval.specs.Enclosure.{units_of, Fits}
use Rattle.interval.specs.Float.{least, greatest}
use Rattle.interval.specs.OneSided.{LowerBound, UpperBound, Within}
use Rattle.interval.specs.Pattern.{magnitude}
use Rattle.interval.specs.Scalar.{mul_of, neg_of}
use Rattle.interval.specs.Step.{next_up, next_down}
use Rattle.interval.proofs.Integers.{P, N, P-scale, N-scale, N-neg, le_of_parts}
use Rattle.interval.proofs.Patterns.{bits_pos, magnitude_zero}
use Rattle.interval.proofs.Rounding.{magnitude_lt}
use Rattle.interval.proofs.Rank.{rank, count, neg_round}
use Rattle.interval.proofs.Outward.{positive_fits, down_rank, rank_neg}
use Rattle.interval.proofs.Enclosure.Add.{le_scaled}
use Rattle.interval.proofs.ProductEnds.{product_ends}
use Rattle.interval.proofs.Corners.{P-mul, N-mul, ext}
use Rattle.interval.proofs.Product.{corner_low, product_low, mul_number}
use Rattle.interval.proofs.Order.{Number, least_any, greatest_any}
use Rattle.interval.proofs.Inverse.{sides_pos, sides_neg}
use Rattle.interval.proofs.MinMax.{inf_number}
use Rattle.interval.proofs.Infinite.{Zero, times_inf, zero_times, zero-P, under_zero, neg_finite, neg_neg}
use Rattle.interval.proofs.Enclosure.Neg.{parts_neg}
use Rattle.interval.proofs.OneSided.Ends.{minus_rank, neg_number, step_down}
use Rattle.interval.proofs.OneSided.Neg.{neg_within, neg_ends_fit, un_high}

-- ---- a float product commutes, and moves a sign out
unlike_comm : (s t : Bool) → unlike s t ≡ unlike t s
unlike_comm true true = refl
unlike_comm true false = refl
unlike_comm false true = refl
unlike_comm false false = refl

pub times_comm : (x y : Float) → mul binary64 x y ≡ mul binary64 y x
unfolding mul
times_comm nan nan = refl
times_comm nan (inf t) = refl
times_comm nan (fin t n d) = refl
times_comm (inf s) nan = refl
times_comm (inf s) (inf t) = ap inf (unlike_comm s t)
times_comm (inf s) (fin t n d) = ap (λ (b : Bool). cond (eqb n 0) nan (inf b)) (unlike_comm s t)
times_comm (fin s m e) nan = refl
times_comm (fin s m e) (inf t) = ap (λ (b : Bool). cond (eqb m 0) nan (inf b)) (unlike_comm s t)
times_comm (fin s m e) (fin t n d) =
    ap (λ (b : Bool). round binary64 b (m * up e * (n * up d)) (down e * down d)) (unlike_comm s t)
    ∙ ap (λ (z : ℕ). round binary64 (unlike t s) z (down e * down d)) (mul_comm (m * up e) (n * up d))
    ∙ ap (λ (z : ℕ). round binary64 (unlike t s) (n * up d * (m * up e)) z) (mul_comm (down e) (down d))

unlike_not : (s t : Bool) → unlike (not s) t ≡ not (unlike s t)
unlike_not true true = refl
unlike_not true false = refl
unlike_not false true = refl
unlike_not false false = refl

pub round_not : (b : Bool) (a c : ℕ) → round binary64 (not b) a c ≡ neg (round binary64 b a c)
round_not false a c = neg_round binary64 a c
round_not true a c = sym (neg_neg (round binary64 false a c)) ∙ ap neg (sym (neg_round binary64 a c))

cond_neg : (b s : Bool) → cond b nan (inf (not s)) ≡ neg (cond b nan (inf s))
unfolding neg
cond_neg true s = refl
cond_neg false s = refl

pub times_neg : (x y : Float) → mul binary64 (neg x) y ≡ neg (mul binary64 x y)
unfolding mul neg
times_neg nan nan = refl
times_neg nan (inf t) = refl
times_neg nan (fin t n d) = refl
times_neg (inf s) nan = refl
times_neg (inf s) (inf t) = ap inf (unlike_not s t)
times_neg (inf s) (fin t n d) =
    ap (λ (b : Bool). cond (eqb n 0) nan (inf b)) (unlike_not s t) ∙ cond_neg (eqb n 0) (unlike s t)
times_neg (fin s m e) nan = refl
times_neg (fin s m e) (inf t) =
    ap (λ (b : Bool). cond (eqb m 0) nan (inf b)) (unlike_not s t) ∙ cond_neg (eqb m 0) (unlike s t)
times_neg (fin s m e) (fin t n d) =
    ap (λ (b : Bool). round binary64 b (m * up e * (n * up d)) (down e * down d)) (unlike_not s t)
    ∙ round_not (unlike s t) (m * up e * (n * up d)) (down e * down d)

-- ---- a value that is not zero has units
pub some_units : (m : ℕ) (e : ℤ) → T (fits binary64 (fin false (suc m) e))
    → 0 < suc m * up e * 2 ^ low binary64 / down e
some_units m e t =
    subst (λ (z : ℕ). 0 < z) (sym (count binary64 (suc m) e t))
    (subst (λ (z : ℕ). z < magnitude binary64 (to_bits binary64 (fin false (suc m) e))) (magnitude_zero binary64)
    (magnitude_lt binary64 0 (to_bits binary64 (fin false (suc m) e)) (bits_pos binary64 m e t)))

pub above_units : (m : ℕ) (e : ℤ) → T (fits binary64 (fin false (suc m) e))
    → 0 < P (units_of binary64 (fin false (suc m) e))
unfolding units_of
above_units m e t = some_units m e t

pub below_units : (m : ℕ) (e : ℤ) → T (fits binary64 (fin true (suc m) e))
    → 0 < N (units_of binary64 (fin true (suc m) e))
unfolding units_of
below_units m e t = subst (λ (z : ℕ). 0 < z) (sym (N-neg (suc m * up e * 2 ^ low binary64 / down e)))
    (some_units m e (positive_fits (suc m) e t))

-- ---- whole numbers: two factors of one sign, of which one is large
big_pos : (r A C : ℤ) (l K : ℕ) → P r * l ≤ K → 0 < P A → N A ≡ 0 → K ≤ P C → N C ≡ 0 → T (le_z (r *ℤ pos l) (A *ℤ C))
big_pos r A C l K h a za c zc =
    let x : 1 * P C ≤ P A * P C = mul-le-mul_right (P C) a in
    le_of_parts (r *ℤ pos l) (A *ℤ C)
    (omega (
      arith,
      P-scale r l,
      N-scale r l,
      P-mul A C,
      N-mul A C,
      one-mul (P C),
      ap (λ (z : ℕ). P A * z) zc,
      mul-zero (P A),
      ap (λ (z : ℕ). z * P C) za,
      zero-mul (P C),
    ))

big_neg : (r A C : ℤ) (l K : ℕ) → P r * l ≤ K → 0 < N A → P A ≡ 0 → K ≤ N C → P C ≡ 0 → T (le_z (r *ℤ pos l) (A *ℤ C))
big_neg r A C l K h a za c zc =
    let x : 1 * N C ≤ N A * N C = mul-le-mul_right (N C) a in
    le_of_parts (r *ℤ pos l) (A *ℤ C)
    (omega (
      arith,
      P-scale r l,
      N-scale r l,
      P-mul A C,
      N-mul A C,
      one-mul (N C),
      ap (λ (z : ℕ). N A * z) zc,
      mul-zero (N A),
      ap (λ (z : ℕ). z * N C) za,
      zero-mul (N C),
    ))

none_at_all : (r A C : ℤ) (l : ℕ) → P r ≡ 0 → P A ≡ 0 → N A ≡ 0 → T (le_z (r *ℤ pos l) (A *ℤ C))
none_at_all r A C l z a b =
    le_of_parts (r *ℤ pos l) (A *ℤ C)
    (omega (
      arith,
      P-scale r l,
      ap (λ (t : ℕ). t * l) z,
      zero-mul l,
      N-mul A C,
      ap (λ (t : ℕ). t * N C) a,
      ap (λ (t : ℕ). t * P C) b,
      zero-mul (N C),
      zero-mul (P C),
    ))

-- ---- an infinite end stands for a large number
abbrev pub Stand : ℕ → Float → ℤ → Type 0
Stand K u A = (T (finite u) × (A ≡ units_of binary64 u))
    ⊎ (((u ≡ inf true) × (A ≡ negsuc K)) ⊎ ((u ≡ inf false) × (A ≡ pos (suc K))))

far_low : (p : ℤ) (j l K : ℕ) → 0 < j → N p * l ≤ K → T (le_z (negsuc K *ℤ pos j) (p *ℤ pos l))
far_low p j l K J h =
    let x : suc K * 1 ≤ suc K * j = mul-le-mul_left (suc K) J in
    le_scaled (negsuc K) p j l (omega (arith, zero-mul j, mul-one (suc K)))

far_high : (p : ℤ) (j l K : ℕ) → 0 < j → P p * l ≤ K → T (le_z (p *ℤ pos l) (pos (suc K) *ℤ pos j))
far_high p j l K J h =
    let x : suc K * 1 ≤ suc K * j = mul-le-mul_left (suc K) J in
    le_scaled p (pos (suc K)) l j (omega (arith, zero-mul j, mul-one (suc K)))

low_stand : (u : Float) (p : ℤ) (j K : ℕ) → 0 < j → N p * 2 ^ low binary64 ≤ K → LowerBound u p j
    → (A : ℤ) × Stand K u A × T (le_z (A *ℤ pos j) (p *ℤ pos (2 ^ low binary64)))
low_stand u p j K J h (inl e) = (negsuc K, inr (inl (e, refl)), far_low p j (2 ^ low binary64) K J h)
low_stand u p j K J h (inr g) = (units_of binary64 u, inl (g.0, refl), g.1)

high_stand : (u : Float) (p : ℤ) (j K : ℕ) → 0 < j → P p * 2 ^ low binary64 ≤ K → UpperBound u p j
    → (A : ℤ) × Stand K u A × T (le_z (p *ℤ pos (2 ^ low binary64)) (A *ℤ pos j))
high_stand u p j K J h (inl e) = (pos (suc K), inr (inr (e, refl)), far_high p j (2 ^ low binary64) K J h)
high_stand u p j K J h (inr g) = (units_of binary64 u, inl (g.0, refl), g.1)

abbrev pub Kind : Float → Bool → Type 0
Kind v t = T (finite v) ⊎ (v ≡ inf t)

kind : {B : Type 0} {t : Bool} {v : Float} → (v ≡ inf t) ⊎ (T (finite v) × B) → Kind v t
kind (inl e) = inr e
kind (inr g) = inl g.0

-- m is at most the product u * v, if that is a number
abbrev pub Fact : Float → Float → Float → Type 0
Fact m u v = T (not (is_nan (mul binary64 u v))) → rank binary64 m ≤ rank binary64 (mul binary64 u v)

fact_comm : (m u v : Float) → Fact m u v → Fact m v u
fact_comm m u v f = subst (λ (z : Float). T (not (is_nan z)) → rank binary64 m ≤ rank binary64 z) (times_comm u v) f

module _ (m : Float) (tm : T (fits binary64 m)) (hm : T (finite (next_down m))) where
  no_minus : (u v : Float) → Fact m u v → mul binary64 u v ≡ inf true → ⊥
  no_minus u v f e =
      let a = down_rank m tm hm in
      let b : rank binary64 m ≤ 0 = subst (λ (z : ℕ). rank binary64 m ≤ z) minus_rank (subst (λ (z : Float).
      rank binary64 m ≤ rank binary64 z) e (f (subst (λ (z : Float). T (not (is_nan z))) (sym e) (inf_number true)))) in
      omega arith

  -- one of u * inf, u * -inf is -inf
  no_both_inf : (u : Float) (t : Bool) → (s : Bool) → mul binary64 u (inf t) ≡ inf (unlike s t)
      → mul binary64 u (inf (not t)) ≡ inf (unlike s (not t)) → Fact m u (inf t) → Fact m u (inf (not t)) → ⊥
  no_both_inf u true true e g f h = no_minus u (inf false) h g
  no_both_inf u true false e g f h = no_minus u (inf true) f e
  no_both_inf u false true e g f h = no_minus u (inf false) f e
  no_both_inf u false false e g f h = no_minus u (inf true) h g

  inf_inf : (s t : Bool) → mul binary64 (inf s) (inf t) ≡ inf (unlike s t)
  unfolding mul
  inf_inf s t = refl

  other_side : (u : Float) (s t : Bool) → Kind u s → (Zero u → ⊥) → Fact m u (inf t) → Fact m u (inf (not t)) → ⊥
  other_side u s t (inr e) z f h =
      no_both_inf (inf s) t s (inf_inf s t) (inf_inf s (not t)) (subst (λ (x : Float). Fact m x (inf t)) e f)
      (subst (λ (x : Float). Fact m x (inf (not t))) e h)
  other_side nan s t (inl k) z f h = k
  other_side (inf b) s t (inl k) z f h = k
  other_side (fin b zero e) s t (inl k) z f h = z (b, e, refl)
  other_side (fin b (suc n) e) s t (inl k) z f h =
      no_both_inf (fin b (suc n) e) t b (times_inf b n e t) (times_inf b n e (not t)) f h

  -- u is 0 and v infinite: then stepped down m is not above 0
  nan_side : (u v u' v' : Float) (s t : Bool) → Zero u → (T (finite v) → ⊥) → Kind v t → Kind v' (not t)
      → Kind u' s → (Zero u → Zero u' → T (finite v) ⊎ T (finite v')) → Fact m u v' → Fact m u' v → Fact m u' v'
      → P (units_of binary64 (next_down m)) ≡ 0
  nan_side u v u' v' s t z n kv (inl h) ku c f g e =
      let o = zero_times u v' z h in under_zero m tm hm (le_trans (f o.1) (le_of_eq o.0))
  nan_side u v u' v' s t z n (inl k) (inr h) ku c f g e = absurd (n k)
  nan_side u v u' v' s t z n (inr k) (inr h) ku c f g e =
      absurd (other_side u' s t ku (λ w. elim (c z w) [ inl x ↦ n x | inr x ↦ subst (λ (y : Float). T (finite y)) h x ])
      (subst (Fact m u') k g) (subst (Fact m u') h e))

  -- a corner, an infinite end stood for by a large number
  fin_inf : (u : Float) (t : Bool) (C : ℤ) (l K : ℕ) → T (fits binary64 u) → T (finite u)
      → P (units_of binary64 (next_down m)) * l ≤ K
      → ((t ≡ true) × (C ≡ negsuc K)) ⊎ ((t ≡ false) × (C ≡ pos (suc K)))
      → Fact m u (inf t) → (Zero u → P (units_of binary64 (next_down m)) ≡ 0)
      → T (le_z (units_of binary64 (next_down m) *ℤ pos l) (units_of binary64 u *ℤ C))
  fin_inf nan t C l K tu hu h w f z = absurd hu
  fin_inf (inf s) t C l K tu hu h w f z = absurd hu
  fin_inf (fin s zero e) t C l K tu hu h w f z =
      let o = zero-P (fin s zero e) tu (s, e, refl) in
      none_at_all (units_of binary64 (next_down m)) (units_of binary64 (fin s zero e)) C l (z (s, e, refl)) o.0 o.1
  fin_inf (fin false (suc n) e) t C l K tu hu h (inr w) f z =
      subst (λ (c : ℤ). T (le_z (units_of binary64 (next_down m) *ℤ pos l)
      (units_of binary64 (fin false (suc n) e) *ℤ c)))
      (sym w.1)
      (big_pos (units_of binary64 (next_down m)) (units_of binary64 (fin false (suc n) e)) (pos (suc K)) l K h
      (above_units n e tu) (sides_pos (suc n) e) (omega arith) refl)
  fin_inf (fin true (suc n) e) t C l K tu hu h (inl w) f z =
      subst (λ (c : ℤ). T (le_z (units_of binary64 (next_down m) *ℤ pos l)
      (units_of binary64 (fin true (suc n) e) *ℤ c)))
      (sym w.1)
      (big_neg (units_of binary64 (next_down m)) (units_of binary64 (fin true (suc n) e)) (negsuc K) l K h
      (below_units n e tu) (sides_neg (suc n) e) (omega arith) refl)
  fin_inf (fin false (suc n) e) t C l K tu hu h (inl w) f z =
      absurd (no_minus (fin false (suc n) e) (inf true)
      (subst (λ (b : Bool). Fact m (fin false (suc n) e) (inf b)) w.0 f) (times_inf false n e true))
  fin_inf (fin true (suc n) e) t C l K tu hu h (inr w) f z =
      absurd (no_minus (fin true (suc n) e) (inf false)
      (subst (λ (b : Bool). Fact m (fin true (suc n) e) (inf b)) w.0 f) (times_inf true n e false))

  signs_of : (K : ℕ) (v : Float) (C : ℤ) → ((v ≡ inf true) × (C ≡ negsuc K)) ⊎ ((v ≡ inf false) × (C ≡ pos (suc K)))
      → (t : Bool) × (v ≡ inf t) × (((t ≡ true) × (C ≡ negsuc K)) ⊎ ((t ≡ false) × (C ≡ pos (suc K))))
  signs_of K v C (inl w) = (true, w.0, inl (refl, w.1))
  signs_of K v C (inr w) = (false, w.0, inr (refl, w.1))

  not_finite : (v : Float) (t : Bool) → v ≡ inf t → T (finite v) → ⊥
  not_finite v t e h = subst (λ (z : Float). T (finite z)) e h

  corner : (u v : Float) (A C : ℤ) (K : ℕ) → T (fits binary64 u) → T (fits binary64 v)
      → P (units_of binary64 (next_down m)) * 2 ^ low binary64 ≤ K → Stand K u A → Stand K v C → Fact m u v
      → (Zero u → (T (finite v) → ⊥) → P (units_of binary64 (next_down m)) ≡ 0)
      → (Zero v → (T (finite u) → ⊥) → P (units_of binary64 (next_down m)) ≡ 0)
      → T (le_z (units_of binary64 (next_down m) *ℤ pos (2 ^ low binary64)) (A *ℤ C))
  corner u v A C K tu tv h (inl a) (inl c) f zu zv =
      subst (λ (z : ℤ). T (le_z (units_of binary64 (next_down m) *ℤ pos (2 ^ low binary64)) (z *ℤ C))) (sym a.1)
      (subst (λ (z : ℤ). T (le_z (units_of binary64 (next_down m) *ℤ pos (2 ^ low binary64))
      (units_of binary64 u *ℤ z)))
      (sym c.1)
      (corner_low u v m tu a.0 tv c.0 tm (f (mul_number u v a.0 c.0).1) hm))
  corner u v A C K tu tv h (inl a) (inr c) f zu zv =
      let w = signs_of K v C c in
      subst (λ (z : ℤ). T (le_z (units_of binary64 (next_down m) *ℤ pos (2 ^ low binary64)) (z *ℤ C))) (sym a.1)
      (fin_inf u w.0 C (2 ^ low binary64) K tu a.0 h w.2 (subst (Fact m u) w.1 f)
      (λ z. zu z (not_finite v w.0 w.1)))
  corner u v A C K tu tv h (inr a) (inl c) f zu zv =
      let w = signs_of K u A a in
      subst (λ (z : ℤ). T (le_z (units_of binary64 (next_down m) *ℤ pos (2 ^ low binary64)) (A *ℤ z))) (sym c.1)
      (subst (λ (z : ℤ). T (le_z (units_of binary64 (next_down m) *ℤ pos (2 ^ low binary64)) z))
      (*ℤ_comm (units_of binary64 v) A)
      (fin_inf v w.0 A (2 ^ low binary64) K tv c.0 h w.2 (subst (Fact m v) w.1 (fact_comm m u v f))
      (λ z. zv z (not_finite u w.0 w.1))))
  corner u v A C K tu tv h (inr (inl a)) (inr (inl c)) f zu zv =
      subst (λ (z : ℤ). T (le_z (units_of binary64 (next_down m) *ℤ pos (2 ^ low binary64)) (z *ℤ C))) (sym a.1)
      (subst (λ (z : ℤ). T (le_z (units_of binary64 (next_down m) *ℤ pos (2 ^ low binary64)) (negsuc K *ℤ z))) (sym c.1)
      (big_neg (units_of binary64 (next_down m)) (negsuc K) (negsuc K) (2 ^ low binary64) K h (omega arith) refl
      (omega arith) refl))
  corner u v A C K tu tv h (inr (inr a)) (inr (inr c)) f zu zv =
      subst (λ (z : ℤ). T (le_z (units_of binary64 (next_down m) *ℤ pos (2 ^ low binary64)) (z *ℤ C))) (sym a.1)
      (subst
      (λ (z : ℤ). T (le_z (units_of binary64 (next_down m) *ℤ pos (2 ^ low binary64)) (pos (suc K) *ℤ z))) (sym c.1)
      (big_pos (units_of binary64 (next_down m)) (pos (suc K)) (pos (suc K)) (2 ^ low binary64) K h (omega arith) refl
      (omega arith) refl))
  corner u v A C K tu tv h (inr (inl a)) (inr (inr c)) f zu zv =
      absurd (no_minus u v f
      (ap (λ (z : Float). mul binary64 z v) a.0 ∙ ap (mul binary64 (inf true)) c.0 ∙ inf_inf true false))
  corner u v A C K tu tv h (inr (inr a)) (inr (inl c)) f zu zv =
      absurd (no_minus u v f
      (ap (λ (z : Float). mul binary64 z v) a.0 ∙ ap (mul binary64 (inf false)) c.0 ∙ inf_inf false true))

-- what is ruled out: one factor has two zeros for its ends and the other two infinities
pub record Apart (x y : Scalar) : Type 0 where
  pub left : Zero x.lo → Zero x.hi → T (finite y.lo) ⊎ T (finite y.hi)
  pub right : Zero y.lo → Zero y.hi → T (finite x.lo) ⊎ T (finite x.hi)

swap : {A B : Type 0} → A ⊎ B → B ⊎ A
swap (inl a) = inr a
swap (inr b) = inl b

-- the four products of the ends of x and y are m or above
pub record Under (m : Float) (x y : Scalar) : Type 0 where
  pub ll : Fact m x.lo y.lo
  pub lh : Fact m x.lo y.hi
  pub hl : Fact m x.hi y.lo
  pub hh : Fact m x.hi y.hi

enough : (a b c d e : ℕ) → (a ≤ a + b + c + d + e) × (b ≤ a + b + c + d + e) × (c ≤ a + b + c + d + e)
    × (d ≤ a + b + c + d + e) × (e ≤ a + b + c + d + e)
enough a b c d e = (omega arith, omega arith, omega arith, omega arith, omega arith)

pub product_below : (m : Float) (x y : Scalar) (p q : ℤ) (j k : ℕ) → 0 < j → 0 < k → Number m → Fits x → Fits y
    → Under m x y → Apart x y → Within x p j → Within y q k → LowerBound (next_down m) (p *ℤ q) (j * k)
product_below m x y p q j k J K' gm tx ty f o a b = step_down m gm (λ hm.
    let tm = gm.0 in
    let l = 2 ^ low binary64 in
    let r = units_of binary64 (next_down m) in
    let K = P r * l + P p * l + N p * l + P q * l + N q * l in
    let en = enough (P r * l) (P p * l) (N p * l) (P q * l) (N q * l) in
    let sa = low_stand x.lo p j K J en.2 a.low_end in
    let sb = high_stand x.hi p j K J en.1 a.high_end in
    let sc = low_stand y.lo q k K K' en.4 b.low_end in
    let sd = high_stand y.hi q k K K' en.3 b.high_end in
    let xl = kind a.low_end in
    let xh = kind a.high_end in
    let yl = kind b.low_end in
    let yh = kind b.high_end in
    let fc = fact_comm m in
    product_low r sa.0 sb.0 sc.0 sd.0 p q l j k (pow_pos (low binary64))
    (corner m tm hm x.lo y.lo sa.0 sc.0 K tx.0 ty.0 en.0 sa.1 sc.1 f.ll
    (λ z n. nan_side m tm hm x.lo y.lo x.hi y.hi false true z n yl yh xh o.left f.lh f.hl f.hh)
    (λ z n. nan_side m tm hm y.lo x.lo y.hi x.hi false true z n xl xh yh o.right (fc _ _ f.hl)
    (fc _ _ f.lh) (fc _ _ f.hh)))
    (corner m tm hm x.lo y.hi sa.0 sd.0 K tx.0 ty.1 en.0 sa.1 sd.1 f.lh
    (λ z n. nan_side m tm hm x.lo y.hi x.hi y.lo false false z n yh yl xh (λ u v. swap (o.left u v))
    f.ll f.hh f.hl)
    (λ z n. nan_side m tm hm y.hi x.lo y.lo x.hi true true z n xl xh yl (λ u v. o.right v u)
    (fc _ _ f.hh) (fc _ _ f.ll) (fc _ _ f.hl)))
    (corner m tm hm x.hi y.lo sb.0 sc.0 K tx.1 ty.0 en.0 sb.1 sc.1 f.hl
    (λ z n. nan_side m tm hm x.hi y.lo x.lo y.hi true true z n yl yh xl (λ u v. o.left v u) f.hh
    f.ll f.lh)
    (λ z n. nan_side m tm hm y.lo x.hi y.hi x.lo false false z n xh xl yh (λ u v. swap (o.right u v))
    (fc _ _ f.ll) (fc _ _ f.hh) (fc _ _ f.lh)))
    (corner m tm hm x.hi y.hi sb.0 sd.0 K tx.1 ty.1 en.0 sb.1 sd.1 f.hh
    (λ z n. nan_side m tm hm x.hi y.hi x.lo y.lo true false z n yh yl xl (λ u v. swap (o.left v u)) f.hl
    f.lh f.ll)
    (λ z n. nan_side m tm hm y.hi x.hi y.lo x.lo true false z n xh xl yl (λ u v. swap (o.right v u))
    (fc _ _ f.lh) (fc _ _ f.hl) (fc _ _ f.ll)))
    sa.2 sb.2 sc.2 sd.2)

-- ---- the upper end by a change of sign
pub neg_zero : (x : Float) → Zero (neg x) → Zero x
unfolding neg
neg_zero x z = (not z.0, z.1, sym (neg_neg x) ∙ ap neg z.2)

un_number : (v : Float) → T (not (is_nan (neg v))) → T (not (is_nan v))
un_number v h = subst (λ (z : Float). T (not (is_nan z))) (neg_neg v) (neg_number (neg v) h)

-- u * v is at most g: then (-u) * v is at least -g
neg_fact : (g u v : Float) → Number g
    → (T (not (is_nan (mul binary64 u v))) → rank binary64 (mul binary64 u v) ≤ rank binary64 g)
    → Fact (neg g) (neg u) v
neg_fact g u v ng f h =
    let w = mul binary64 u v in
    let n : T (not (is_nan w)) = un_number w (subst (λ (z : Float). T (not (is_nan z))) (times_neg u v) h) in
    subst (λ (z : Float). rank binary64 (neg g) ≤ rank binary64 z) (sym (times_neg u v))
    (omega (arith, rank_neg g ng.0 ng.1, rank_neg w (mul-fits binary64 u v) n, f n))

minus_times : (p q : ℤ) → neg_ℤ p *ℤ q ≡ neg_ℤ (p *ℤ q)
minus_times p q =
    let a = parts_neg p in
    let b = parts_neg (p *ℤ q) in
    ext (neg_ℤ p *ℤ q) (neg_ℤ (p *ℤ q))
    (P-mul (neg_ℤ p) q ∙ ap (λ (t : ℕ). t * P q + N (neg_ℤ p) * N q) a.0 ∙ ap (λ (t : ℕ). N p * P q + t * N q) a.1
    ∙ omega arith ∙ sym (N-mul p q) ∙ sym b.0)
    (N-mul (neg_ℤ p) q ∙ ap (λ (t : ℕ). t * N q + N (neg_ℤ p) * P q) a.0 ∙ ap (λ (t : ℕ). N p * N q + t * P q) a.1
    ∙ omega arith ∙ sym (P-mul p q) ∙ sym b.1)

pub mul_within : (x y : Scalar) (p q : ℤ) (j k : ℕ) → 0 < j → 0 < k → Fits x → Fits y → Apart x y → Within x p j
    → Within y q k → Within (mul_of x y) (p *ℤ q) (j * k)
mul_within x y p q j k J K tx ty o a b =
    let f = binary64 in
    let A = mul f x.lo y.lo in
    let B = mul f x.lo y.hi in
    let C = mul f x.hi y.lo in
    let D = mul f x.hi y.hi in
    let ls = least_any A B C D (mul-fits f x.lo y.lo) (mul-fits f x.lo y.hi) (mul-fits f x.hi y.lo)
    (mul-fits f x.hi y.hi) in
    let gs = greatest_any A B C D (mul-fits f x.lo y.lo) (mul-fits f x.lo y.hi) (mul-fits f x.hi y.lo)
    (mul-fits f x.hi y.hi) in
    let g = greatest A B C D in
    let ng = gs.number in
    let turned : LowerBound (next_down (neg g)) (neg_ℤ p *ℤ q) (j * k) =
    product_below (neg g) (neg_of x) y (neg_ℤ p) q j k J K (neg-fits f g ng.0, neg_number g ng.1)
    (neg_ends_fit x tx) ty
    (record {
      ll = neg_fact g x.hi y.lo ng gs.at_r;
      lh = neg_fact g x.hi y.hi ng gs.at_s;
      hl = neg_fact g x.lo y.lo ng gs.at_p;
      hh = neg_fact g x.lo y.hi ng gs.at_q;
    })
    (record {
      left = λ u v. o.left (neg_zero x.lo v) (neg_zero x.hi u);
      right = λ u v. elim (o.right u v) [ inl h ↦ inr (neg_finite x.lo h) | inr h ↦ inl (neg_finite x.hi h) ];
    })
    (neg_within x p j a) b in
    subst (λ (z : Scalar). Within z (p *ℤ q) (j * k)) (sym (product_ends x y)) (record {
      low_end = product_below (least A B C D) x y p q j k J K ls.number tx ty
          (record { ll = ls.at_p; lh = ls.at_q; hl = ls.at_r; hh = ls.at_s }) o a b;
      high_end =
          un_high (next_up g) (p *ℤ q) (j * k)
          (subst (λ (z : ℤ). LowerBound (neg (next_up g)) z (j * k)) (minus_times p q)
          (subst (λ (z : Float). LowerBound (neg (next_up z)) (neg_ℤ p *ℤ q) (j * k)) (neg_neg g) turned));
    })

-- a square needs nothing
pub square_within : (x : Scalar) (p : ℤ) (j : ℕ) → 0 < j → Fits x → Within x p j → Within (mul_of x x) (p *ℤ p) (j * j)
square_within x p j J tx a =
    let f : Zero x.lo → T (finite x.lo) = λ u. subst (λ (w : Float). T (finite w)) (sym u.2) tt in
    mul_within x x p p j j J J tx tx (record { left = λ u v. inl (f u); right = λ u v. inl (f u) }) a a
