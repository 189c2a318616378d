-- The ranks are in the order of `lt`. So the least of several floats has the least rank, and units of finite floats are
-- in the order of their ranks.
use Rattle.std.proofs.Common.{◌≡◌, ℕ, ◌+◌, ◌-◌, ◌*◌, ◌^◌, ◌<◌, ◌≤◌, Bool, true, false, cond, not, T, ℤ, sym, refl, ap}
use Rattle.std.proofs.Common.{◌∙◌, subst, inl, inr, zero-le, le_trans, le_of_eq, le_refl, le_of_lt, lt_irrefl}
use Rattle.std.proofs.Common.{mul-le-mul_right, mul_assoc, mul_comm, eq-zero-or-pos, mul-pos, zero-mul, mul_right_comm}
use Rattle.std.proofs.Common.{not-le_of_lt, le_of_mul-le-mul_right, arith, ltb→lt, nltb→le}
use lib.Ieee.{Float, nan, inf, fin, binary64, low, up, down, below, lt, fits, to_bits, is_nan}
use lib.Ieee.Fits.{down_pos, inf-fits}
use lib.Ieee.Scale.{finite}
use Rattle.interval.specs.Float.{lesser, greater, fmin, fmax, least, greatest}
use Rattle.interval.specs.Pattern.{inf_bits, magnitude}
use Rattle.interval.proofs.Patterns.{magnitude_zero, bits_val}
use Rattle.interval.proofs.Rounding.{magnitude_lt, magnitude_le}
use lib.Signed.{le_z}
use Rattle.interval.specs.Enclosure.{units_of}
use Rattle.interval.proofs.Integers.{le_of_parts}
use Rattle.interval.proofs.MinMax.{lt_first, lt_second, fmin_number, fmax_number, least_is, greatest_is}
use Rattle.interval.proofs.Rank.{rank, le_or_lt, units-P, units-N}
use Rattle.interval.proofs.Outward.{positive_fits, rank_le}

magnitude_none : (b c : ℕ) → 0 < c → magnitude binary64 b * c ≡ 0 → b ≡ 0
magnitude_none b c C h = elim (eq-zero-or-pos b) [
  | inl z ↦ z
  | inr p ↦ absurd (lt_irrefl 0 (subst (λ (z : ℕ). 0 < z) h (mul-pos
      (subst (λ (z : ℕ). z < magnitude binary64 b) (magnitude_zero binary64) (magnitude_lt binary64 0 b p)) C)))
]

-- ---- the sizes of two values, over a common denominator, are in the order of their patterns
module _ (m : ℕ) (e : ℤ) (n : ℕ) (d : ℤ) (tx : T (fits binary64 (fin false m e)))
    (ty : T (fits binary64 (fin false n d))) where
  pub left : m * up e * down d * 2 ^ low binary64
      ≡ magnitude binary64 (to_bits binary64 (fin false m e)) * (down e * down d)
  left =
      mul_right_comm (m * up e) (down d) (2 ^ low binary64) ∙ ap (λ (z : ℕ). z * down d) (bits_val binary64 m e tx).1
      ∙ mul_assoc (magnitude binary64 (to_bits binary64 (fin false m e))) (down e) (down d)

  pub right : n * up d * down e * 2 ^ low binary64
      ≡ magnitude binary64 (to_bits binary64 (fin false n d)) * (down e * down d)
  right =
      mul_right_comm (n * up d) (down e) (2 ^ low binary64) ∙ ap (λ (z : ℕ). z * down e) (bits_val binary64 n d ty).1
      ∙ mul_assoc (magnitude binary64 (to_bits binary64 (fin false n d))) (down d) (down e)
      ∙ ap (λ (z : ℕ). magnitude binary64 (to_bits binary64 (fin false n d)) * z) (mul_comm (down d) (down e))

  pub size_le : m * up e * down d ≤ n * up d * down e
      → to_bits binary64 (fin false m e) ≤ to_bits binary64 (fin false n d)
  size_le h = elim (le_or_lt (to_bits binary64 (fin false m e)) (to_bits binary64 (fin false n d))) [
    | inl k ↦ k
    | inr k ↦
        let a : m * up e * down d * 2 ^ low binary64 ≤ n * up d * down e * 2 ^ low binary64 =
        mul-le-mul_right (2 ^ low binary64) h in
        let b : magnitude binary64 (to_bits binary64 (fin false m e)) * (down e * down d)
        ≤ magnitude binary64 (to_bits binary64 (fin false n d)) * (down e * down d) =
        le_trans (le_of_eq (sym left)) (le_trans a (le_of_eq right)) in
        absurd (not-le_of_lt (magnitude_lt binary64 (to_bits binary64 (fin false n d))
        (to_bits binary64 (fin false m e)) k) (le_of_mul-le-mul_right b (mul-pos (down_pos e) (down_pos d))))
  ]

  pub none_left : m * up e * down d ≡ 0 → to_bits binary64 (fin false m e) ≡ 0
  none_left h = magnitude_none (to_bits binary64 (fin false m e)) (down e * down d) (mul-pos (down_pos e) (down_pos d))
      (sym left ∙ ap (λ (z : ℕ). z * 2 ^ low binary64) h ∙ zero-mul (2 ^ low binary64))

  pub none_right : n * up d * down e ≡ 0 → to_bits binary64 (fin false n d) ≡ 0
  none_right h = magnitude_none (to_bits binary64 (fin false n d)) (down e * down d) (mul-pos (down_pos e) (down_pos d))
      (sym right ∙ ap (λ (z : ℕ). z * 2 ^ low binary64) h ∙ zero-mul (2 ^ low binary64))

fin_le : (s : Bool) (m : ℕ) (e : ℤ) (t : Bool) (n : ℕ) (d : ℤ) → T (fits binary64 (fin s m e))
    → T (fits binary64 (fin t n d)) → T (below s (m * up e * down d) t (n * up d * down e))
    → rank binary64 (fin s m e) ≤ rank binary64 (fin t n d)
unfolding rank
fin_le false m e false n d tx ty h =
    omega (arith, size_le m e n d tx ty (le_of_lt (ltb→lt (m * up e * down d) (n * up d * down e) h)))
fin_le false m e true n d tx ty h = absurd h
fin_le true m e false n d tx ty h = omega arith
fin_le true m e true n d tx ty h = omega (
  arith,
  size_le n d m e (positive_fits n d ty) (positive_fits m e tx)
      (le_of_lt (ltb→lt (n * up d * down e) (m * up e * down d) h)),
)

fin_ge : (s : Bool) (m : ℕ) (e : ℤ) (t : Bool) (n : ℕ) (d : ℤ) → T (fits binary64 (fin s m e))
    → T (fits binary64 (fin t n d)) → T (not (below s (m * up e * down d) t (n * up d * down e)))
    → rank binary64 (fin t n d) ≤ rank binary64 (fin s m e)
unfolding rank
fin_ge false m e false n d tx ty h =
    omega (arith, size_le n d m e ty tx (nltb→le (m * up e * down d) (n * up d * down e) h))
fin_ge false m e true n d tx ty h = omega arith
fin_ge true m e false n d tx ty h =
    let z : m * up e * down d + n * up d * down e ≤ 0 = nltb→le 0 (m * up e * down d + n * up d * down e) h in
    let u = positive_fits m e tx in
    omega (arith, none_left m e n d u ty (omega arith), none_right m e n d u ty (omega arith))
fin_ge true m e true n d tx ty h = omega (
  arith,
  size_le m e n d (positive_fits m e tx) (positive_fits n d ty) (nltb→le (n * up d * down e) (m * up e * down d) h),
)

pub lt_rank : (x y : Float) → T (fits binary64 x) → T (fits binary64 y) → T (lt x y) → rank binary64 x ≤ rank binary64 y
unfolding lt
lt_rank nan y tx ty h = absurd h
lt_rank (inf true) nan tx ty h = absurd h
lt_rank (inf false) nan tx ty h = absurd h
lt_rank (inf true) (inf t) tx ty h = unfold rank in zero-le
lt_rank (inf true) (fin t n d) tx ty h = unfold rank in zero-le
lt_rank (inf false) (inf t) tx ty h = absurd h
lt_rank (inf false) (fin t n d) tx ty h = absurd h
lt_rank (fin s m e) nan tx ty h = absurd h
lt_rank (fin s m e) (inf false) tx ty h = unfold rank in rank_le (fin s m e) tx
lt_rank (fin s m e) (inf true) tx ty h = absurd h
lt_rank (fin s m e) (fin t n d) tx ty h = fin_le s m e t n d tx ty h

pub nlt_rank : (x y : Float) → T (fits binary64 x) → T (fits binary64 y) → T (not (is_nan x)) → T (not (is_nan y))
    → T (not (lt x y)) → rank binary64 y ≤ rank binary64 x
unfolding lt is_nan
nlt_rank nan y tx ty nx ny h = absurd nx
nlt_rank (inf true) nan tx ty nx ny h = absurd ny
nlt_rank (inf true) (inf true) tx ty nx ny h = le_refl (rank binary64 (inf true))
nlt_rank (inf true) (inf false) tx ty nx ny h = absurd h
nlt_rank (inf true) (fin t n d) tx ty nx ny h = absurd h
nlt_rank (inf false) y tx ty nx ny h = unfold rank in rank_le y ty
nlt_rank (fin s m e) nan tx ty nx ny h = absurd ny
nlt_rank (fin s m e) (inf true) tx ty nx ny h = unfold rank in zero-le
nlt_rank (fin s m e) (inf false) tx ty nx ny h = absurd h
nlt_rank (fin s m e) (fin t n d) tx ty nx ny h = fin_ge s m e t n d tx ty h

-- ---- the least and the greatest of four
abbrev pub Number : Float → Type 0
Number x = T (fits binary64 x) × T (not (is_nan x))

number_inf : (s : Bool) → Number (inf s)
unfolding is_nan
number_inf s = (inf-fits binary64 s, tt)

-- a NaN is passed over
pub lesser_any : (a b : Float) → Number a → T (fits binary64 b)
    → Number (lesser a b) × (rank binary64 (lesser a b) ≤ rank binary64 a)
    × (T (not (is_nan b)) → rank binary64 (lesser a b) ≤ rank binary64 b)
unfolding lesser
lesser_any a b ga tb = go (lt b a) refl
  where
    go : (t : Bool) → lt b a ≡ t → Number (cond t b a) × (rank binary64 (cond t b a) ≤ rank binary64 a)
        × (T (not (is_nan b)) → rank binary64 (cond t b a) ≤ rank binary64 b)
    go true e = (
      (tb, lt_first b a (subst T (sym e) tt)),
      lt_rank b a tb ga.0 (subst T (sym e) tt),
      λ n. le_refl (rank binary64 b),
    )
    go false e = (
      ga,
      le_refl (rank binary64 a),
      λ n. nlt_rank b a tb ga.0 n ga.1 (subst (λ (z : Bool). T (not z)) (sym e) tt),
    )

pub greater_any : (a b : Float) → Number a → T (fits binary64 b)
    → Number (greater a b) × (rank binary64 a ≤ rank binary64 (greater a b))
    × (T (not (is_nan b)) → rank binary64 b ≤ rank binary64 (greater a b))
unfolding greater
greater_any a b ga tb = go (lt a b) refl
  where
    go : (t : Bool) → lt a b ≡ t → Number (cond t b a) × (rank binary64 a ≤ rank binary64 (cond t b a))
        × (T (not (is_nan b)) → rank binary64 b ≤ rank binary64 (cond t b a))
    go true e = (
      (tb, lt_second a b (subst T (sym e) tt)),
      lt_rank a b ga.0 tb (subst T (sym e) tt),
      λ n. le_refl (rank binary64 b),
    )
    go false e = (
      ga,
      le_refl (rank binary64 a),
      λ n. nlt_rank a b ga.0 tb ga.1 n (subst (λ (z : Bool). T (not z)) (sym e) tt),
    )

pub record LeastOf (m p q r s : Float) : Type 0 where
  pub number : Number m
  pub at_p : T (not (is_nan p)) → rank binary64 m ≤ rank binary64 p
  pub at_q : T (not (is_nan q)) → rank binary64 m ≤ rank binary64 q
  pub at_r : T (not (is_nan r)) → rank binary64 m ≤ rank binary64 r
  pub at_s : T (not (is_nan s)) → rank binary64 m ≤ rank binary64 s

pub least_any : (p q r s : Float) → T (fits binary64 p) → T (fits binary64 q) → T (fits binary64 r)
    → T (fits binary64 s) → LeastOf (least p q r s) p q r s
least_any p q r s tp tq tr ts =
    let a = lesser_any (inf false) p (number_inf false) tp in
    let b = lesser_any (lesser (inf false) p) q a.0 tq in
    let c = lesser_any (lesser (lesser (inf false) p) q) r b.0 tr in
    let d = lesser_any (lesser (lesser (lesser (inf false) p) q) r) s c.0 ts in
    subst (λ (m : Float). LeastOf m p q r s) (sym (least_is p q r s))
    (record {
      number = d.0;
      at_p = λ n. le_trans d.1 (le_trans c.1 (le_trans b.1 (a.2 n)));
      at_q = λ n. le_trans d.1 (le_trans c.1 (b.2 n));
      at_r = λ n. le_trans d.1 (c.2 n);
      at_s = d.2;
    })

pub record GreatestOf (m p q r s : Float) : Type 0 where
  pub number : Number m
  pub at_p : T (not (is_nan p)) → rank binary64 p ≤ rank binary64 m
  pub at_q : T (not (is_nan q)) → rank binary64 q ≤ rank binary64 m
  pub at_r : T (not (is_nan r)) → rank binary64 r ≤ rank binary64 m
  pub at_s : T (not (is_nan s)) → rank binary64 s ≤ rank binary64 m

pub greatest_any : (p q r s : Float) → T (fits binary64 p) → T (fits binary64 q) → T (fits binary64 r)
    → T (fits binary64 s) → GreatestOf (greatest p q r s) p q r s
greatest_any p q r s tp tq tr ts =
    let a = greater_any (inf true) p (number_inf true) tp in
    let b = greater_any (greater (inf true) p) q a.0 tq in
    let c = greater_any (greater (greater (inf true) p) q) r b.0 tr in
    let d = greater_any (greater (greater (greater (inf true) p) q) r) s c.0 ts in
    subst (λ (m : Float). GreatestOf m p q r s) (sym (greatest_is p q r s))
    (record {
      number = d.0;
      at_p = λ n. le_trans (a.2 n) (le_trans b.1 (le_trans c.1 d.1));
      at_q = λ n. le_trans (b.2 n) (le_trans c.1 d.1);
      at_r = λ n. le_trans (c.2 n) d.1;
      at_s = d.2;
    })

-- ---- the same of numbers
pub lesser_rank : (a b : Float) → Number a → Number b → Number (lesser a b)
    × (rank binary64 (lesser a b) ≤ rank binary64 a) × (rank binary64 (lesser a b) ≤ rank binary64 b)
lesser_rank a b ga gb = let w = lesser_any a b ga gb.0 in (w.0, w.1, w.2 gb.1)

pub greater_rank : (a b : Float) → Number a → Number b → Number (greater a b)
    × (rank binary64 a ≤ rank binary64 (greater a b)) × (rank binary64 b ≤ rank binary64 (greater a b))
greater_rank a b ga gb = let w = greater_any a b ga gb.0 in (w.0, w.1, w.2 gb.1)

-- the joined end is no greater than the greater lower end, and no smaller than the greater upper end
pub joined : (l h : Float) → Number l → Number h
    → (rank binary64 (fmin l h) ≤ rank binary64 l) × (rank binary64 h ≤ rank binary64 (fmax l h))
joined l h gl gh = (
  subst (λ (z : Float). rank binary64 z ≤ rank binary64 l) (sym (fmin_number l h gl.1)) (lesser_rank l h gl gh).1,
  subst (λ (z : Float). rank binary64 h ≤ rank binary64 z) (sym (fmax_number l h gl.1)) (greater_rank l h gl gh).2,
)

-- ---- the ranks of finite values are in the order of their units
pub rank_units : (x y : Float) → T (fits binary64 x) → T (finite x) → T (fits binary64 y) → T (finite y)
    → rank binary64 x ≤ rank binary64 y → T (le_z (units_of binary64 x) (units_of binary64 y))
rank_units x y tx hx ty hy h =
    let a = rank binary64 x in
    let b = rank binary64 y in
    le_of_parts (units_of binary64 x) (units_of binary64 y)
    (omega (
      arith,
      units-P binary64 x tx hx,
      units-N binary64 x tx hx,
      units-P binary64 y ty hy,
      units-N binary64 y ty hy,
      magnitude_le binary64 (a - inf_bits binary64) (b - inf_bits binary64) (omega arith),
      magnitude_le binary64 (inf_bits binary64 - b) (inf_bits binary64 - a) (omega arith),
    ))

pub finite_number : (x : Float) → T (fits binary64 x) → T (finite x) → Number x
unfolding is_nan
finite_number (fin s m e) t h = (t, tt)
finite_number nan t h = elim h [ ]
finite_number (inf _) t h = elim h [ ]
