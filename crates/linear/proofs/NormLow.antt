-- The lower end of a norm is finite, also where the upper end is not: a root is not below 0, so its lower end is at
-- most one step below 0, and so is its product with the greatest end, but for a small number.
use mathlib.Core.Path.{◌≡◌, refl, sym, ap, ◌∙◌, subst}
use mathlib.Core.Logic.{◌⊎◌, inl, inr}
use Prim.Native.Nat.{ℕ, zero, suc, ◌+◌, ◌-◌, ◌*◌, ◌/◌, ◌^◌, ◌≤◌, ◌<◌, zero-le}
use native.Mathlib.Nat.{le_trans, le_of_eq}
use native.Mathlib.Omega.{arith}
use mathlib.Core.Bool.{Bool, true, false, not, cond}
use lib.Dec.{T, ltb, lit<, lit≤}
use lib.IntN.{ℤ, pos, negsuc, nat_abs}
use lib.Signed.{le_z}
use lib.Ieee.{Float, inf, fin, binary64, low, up, down, mul, lt, fits, is_nan}
use lib.Ieee.Fits.{mul-fits, inf-fits}
use lib.Ieee.Scale.{finite}
use Rattle.interval.specs.declared.Scalar.{Scalar}
use Rattle.interval.specs.Bounded.{Small, Bounded}
use Rattle.interval.specs.Enclosure.{units_of}
use Rattle.interval.specs.Float.{least}
use Rattle.interval.specs.OneSided.{UpperRoot}
use Rattle.interval.specs.Pattern.{inf_bits, magnitude}
use Rattle.interval.specs.Result.{ok}
use Rattle.interval.specs.Root.{nearest_root, rounded_root, isqrt}
use Rattle.interval.specs.Scalar.{zero64, clamped, mul_of}
use Rattle.interval.specs.Step.{next_down}
use Rattle.interval.proofs.Bounded.Ends.{small_weaken}
use Rattle.interval.proofs.Bounded.Power.{small, down_small}
use Rattle.interval.proofs.Bounded.Product.{mul_small}
use Rattle.interval.proofs.Bounded.Roots.{sqrt_given}
use Rattle.interval.proofs.Enclosure.Sqrt.{zero_rank, zero_units, zero-units-N}
use Rattle.interval.proofs.Infinite.{down_finite, times_inf}
use Rattle.interval.proofs.Integers.{P, N}
use Rattle.interval.proofs.Inverse.{Above, sides_neg, some_above}
use Rattle.interval.proofs.MinMax.{either_least}
use Rattle.interval.proofs.OneSided.Ends.{zero_fits}
use Rattle.interval.proofs.OneSided.Mul.{below_units}
use Rattle.interval.proofs.OneSided.Sqrt.{root_fits, sqrt_fits, sqrt_within}
use Rattle.interval.proofs.Order.{nlt_rank}
use Rattle.interval.proofs.Outward.{positive_fits, down_fits, down_rank}
use Rattle.interval.proofs.Patterns.{bits_pos}
use Rattle.interval.proofs.Rank.{rank, units-N, nonneg_rank}
use Rattle.interval.proofs.Results.{ok_inj}
use Rattle.interval.proofs.Rounding.{NonNegative, magnitude_le, round_nonneg}
use Rattle.linear.specs.Dot.{dot_to}
use Rattle.linear.specs.Norm.{largest_to, norm_of}
use Rattle.linear.specs.Squares.{squares_to, Rows, Ordered, Chosen}
use Rattle.linear.proofs.NormLaws.{Scale, sum_fits, Value, plain_root, scaled-root, norm_value, plain_within}
use Rattle.linear.proofs.NormLaws.{over_within, sum_not_negative, scaled_not_negative, lower_ends}
use Rattle.linear.proofs.NormSizes.{largest_bounded}
use Rattle.linear.proofs.SquareLaws.{bounded_rows, dot_fits}

-- ---- not below 0, or small
abbrev Floor : Float → ℕ → Type 0
Floor v k = NonNegative v ⊎ Small v k

zeros_small : (s : Bool) (e : ℤ) (k : ℕ) → T (fits binary64 (fin s zero e)) → Small (fin s zero e) k
zeros_small s e k t = small (fin s zero e) k t tt (le_trans (le_of_eq (zero_units s e t)) zero-le)
    (le_trans (le_of_eq (zero-units-N s e t)) zero-le)

one_magnitude : magnitude binary64 1 ≡ 1
unfolding magnitude
one_magnitude = refl

-- at most one step below 0
one_below : (v : Float) → T (fits binary64 v) → T (finite v) → inf_bits binary64 ≤ rank binary64 v + 1 → Floor v 1
unfolding NonNegative
one_below (fin false m e) t f h = inl (inr (m, e, refl))
one_below (fin true m e) t f h =
    let v = fin true m e in
    inr (small_weaken v 0 1 (lit≤ tt)
    (small v 0 t f (le_trans (le_of_eq (sides_neg m e)) zero-le)
    (le_trans (le_of_eq (units-N binary64 v t f))
    (le_trans (magnitude_le binary64 (inf_bits binary64 - rank binary64 v) 1 (omega arith)) (le_of_eq one_magnitude)))))
one_below lib.Ieee.nan t f h = elim f [ ]
one_below (inf _) t f h = elim f [ ]

-- a finite number that is not below 0
none_below : (v : Float) → T (fits binary64 v) → T (finite v) → N (units_of binary64 v) ≡ 0 → Floor v 1
unfolding NonNegative
none_below (fin false m e) t f h = inl (inr (m, e, refl))
none_below (fin true zero e) t f h = inr (zeros_small true e 1 t)
none_below (fin true (suc m) e) t f h = absurd (omega (arith, below_units m e t))
none_below lib.Ieee.nan t f h = elim f [ ]
none_below (inf _) t f h = elim f [ ]

-- ---- the lower end of a root
minus_root : nearest_root (clamped (inf true)) ≡ zero64
unfolding clamped lt nearest_root
minus_root = refl

zero_floor : Floor zero64 0
unfolding NonNegative
zero_floor = inl (inr (0, pos 0, refl))

rounded : (n : ℕ) → NonNegative (rounded_root binary64 n)
unfolding rounded_root
rounded n = round_nonneg binary64 (2 * isqrt n + cond (ltb (isqrt n * isqrt n) n) 1 0) (2 * 2 ^ low binary64)

kept_root : (x : Float) → T (fits binary64 x) → T (finite x) → T (not (lt x zero64)) → Floor (nearest_root x) 0
unfolding nearest_root NonNegative rank is_nan
kept_root (fin false zero e) t f h = inl (inr (0, e, refl))
kept_root (fin true zero e) t f h = inr (zeros_small true e 0 t)
kept_root (fin false (suc m) e) t f h = inl (rounded (suc m * up e * 2 ^ low binary64 / down e * 2 ^ low binary64))
kept_root (fin true (suc m) e) t f h =
    absurd (omega (
      arith,
      bits_pos binary64 m e (positive_fits (suc m) e t),
      zero_rank false (pos 0) zero_fits.0,
      nlt_rank (fin true (suc m) e) zero64 t zero_fits.0 tt tt h,
    ))
kept_root lib.Ieee.nan t f h = elim f [ ]
kept_root (inf _) t f h = elim f [ ]

root_floor : {A : Type 0} (x : Float) → T (fits binary64 x) → (x ≡ inf true) ⊎ (T (finite x) × A)
    → Floor (nearest_root (clamped x)) 0
root_floor x t (inl e) =
    subst (λ (v : Float). Floor v 0) (sym (ap (λ (z : Float). nearest_root (clamped z)) e ∙ minus_root)) zero_floor
root_floor x t (inr g) = unfold clamped in go (lt x zero64) (kept_root x t g.0)
  where
    zero_root : nearest_root zero64 ≡ zero64
    zero_root = unfold nearest_root in refl

    go : (b : Bool) → (T (not b) → Floor (nearest_root x) 0) → Floor (nearest_root (cond b zero64 x)) 0
    go true k = subst (λ (v : Float). Floor v 0) (sym zero_root) zero_floor
    go false k = k tt

lower_fits : (x : Float) → T (fits binary64 x) → T (fits binary64 (nearest_root (clamped x)))
unfolding clamped
lower_fits x t = root_fits (cond (lt x zero64) zero64 x) (go (lt x zero64))
  where
    go : (b : Bool) → T (fits binary64 (cond b zero64 x))
    go true = zero_fits.0
    go false = t

stepped : (v : Float) → T (fits binary64 v) → Floor v 0 → T (finite (next_down v)) × Floor (next_down v) 1
stepped v t (inl h) = let d = down_finite v h t in
    (d, one_below (next_down v) (down_fits v) d (omega (arith, down_rank v t d, (nonneg_rank binary64 v h).0)))
stepped v t (inr h) = let s = down_small v 0 h (lit< tt) in (s.is-finite, inr s)

-- ---- a product with a number above 0
corner : (g v : Float) (a : ℕ) → Above g → Small g a → a ≤ 2098 → Floor v 1 → Floor (mul binary64 g v) 1100
corner g v a w s A (inr h) = inr (mul_small g v a 1 1100 s h (omega arith) (omega arith))
corner g v a w s A (inl h) = inl
    (subst (λ (g : Float). NonNegative (mul binary64 g v)) (sym w.2) (kept w.0 w.1 (unfold NonNegative in h)))
  where
    kept : (n : ℕ) (d : ℤ) → (v ≡ inf false) ⊎ ((m : ℕ) × (e : ℤ) × (v ≡ fin false m e))
        → NonNegative (mul binary64 (fin false (suc n) d) v)
    kept n d (inl e) = unfold NonNegative in inl (ap (mul binary64 (fin false (suc n) d)) e ∙ times_inf false n d false)
    kept n d (inr q) =
        subst (λ (v : Float). NonNegative (mul binary64 (fin false (suc n) d) v)) (sym q.2) (unfold mul in
        round_nonneg binary64 (suc n * up d * (q.0 * up q.1)) (down d * down q.1))

least_down : (A B C D : Float) → T (fits binary64 A) → T (fits binary64 B) → T (fits binary64 C) → T (fits binary64 D)
    → Floor A 1100 → Floor B 1100 → Floor C 1100 → Floor D 1100 → T (finite (next_down (least A B C D)))
least_down A B C D ta tb tc td a b c d = last (either_least (λ v. T (fits binary64 v) × Floor v 1100) A B C D
    (inf-fits binary64 false, inl (unfold NonNegative in inl refl)) (ta, a) (tb, b) (tc, c) (td, d))
  where
    last : {v : Float} → T (fits binary64 v) × Floor v 1100 → T (finite (next_down v))
    last {v} (t, inl h) = down_finite v h t
    last {v} (t, inr h) = (down_small v 1100 h (lit< tt)).is-finite

product_low : (g r : Scalar) (s : Scale g) (a : ℕ) → Bounded g a → a ≤ 2098 → Floor r.lo 1 → Floor r.hi 1
    → T (finite (mul_of g r).lo)
product_low g r s a b A p q =
    let u = above s.is_float.0 s.is-finite.lo_finite s.lo_is in
    let v = above s.is_float.1 s.is-finite.hi_finite s.hi_is in
    least_down _ _ _ _ (mul-fits binary64 _ _) (mul-fits binary64 _ _) (mul-fits binary64 _ _) (mul-fits binary64 _ _)
    (corner g.lo r.lo a u b.lo_small A p) (corner g.lo r.hi a u b.lo_small A q)
    (corner g.hi r.lo a v b.hi_small A p) (corner g.hi r.hi a v b.hi_small A q)
  where
    above : {x : Float} → T (fits binary64 x) → T (finite x) → units_of binary64 x ≡ pos (suc s.size) → Above x
    above {x} t f e = some_above x t f (omega (arith, ap P e))

-- ---- the law
upper_floor : (x : Float) (s c : ℕ) → T (fits binary64 x) → UpperRoot x s c → Floor x 1
unfolding NonNegative
upper_floor x s c t (inl e) = inl (inl e)
upper_floor x s c t (inr g) = none_below x t g.0 (none (units_of binary64 x) g.1.0)
  where
    none : (u : ℤ) → T (le_z (pos 0) u) → N u ≡ 0
    none (pos a) h = refl
    none (negsuc a) h = absurd h

pub norm_low_finite : (f : ℕ → Scalar) (n a : ℕ) → a ≤ 2098 → ((i : ℕ) → i < n → Bounded (f i) a) → Ordered f n
    → (x : Scalar) → norm_of f n ≡ ok x → T (finite x.lo)
norm_low_finite f n a A b o x e = go (norm_value f n rows x e)
  where
    rows : Rows f n
    rows = bounded_rows f n a b

    chosen : Chosen f n (λ i. units_of binary64 (f i).lo) (low binary64)
    chosen = lower_ends f n (bounded_rows f n a b) o

    go : Value f n x → T (finite x.lo)
    go (plain_root q) =
        let d = dot_to f f n in
        let h = ok_inj
        (sym (sqrt_given d (sum_not_negative f n rows (λ i. units_of binary64 (f i).lo) (low binary64) chosen)) ∙ q) in
        subst (λ (z : Scalar). T (finite z.lo)) h
        (stepped (nearest_root (clamped d.lo)) (lower_fits d.lo (dot_fits f f n).0) (root_floor d.lo (dot_fits
        f f n).0 (plain_within f n rows (λ i. units_of binary64 (f i).lo) (low binary64) chosen).low_end)).0
    go (scaled-root s d t y z m) =
        let g = largest_to f n in
        let td = sum_fits g s f n d y in
        let S = nat_abs (squares_to (λ i. units_of binary64 (f i).lo) n) * (2 ^ low binary64 * 2 ^ low binary64) in
        let C = 2 ^ low binary64 * suc s.size * (2 ^ low binary64 * suc s.size) in
        let w = over_within f n rows (λ i. units_of binary64 (f i).lo) (low binary64) chosen g s d y in
        let h = ok_inj (sym (sqrt_given d
        (scaled_not_negative f n rows (λ i. units_of binary64 (f i).lo) (low binary64) chosen g s d y)) ∙ z) in
        subst (λ (z : Scalar). T (finite z.lo)) m
        (product_low g t s a (largest_bounded f n a b) A
        (subst (λ (z : Scalar). Floor z.lo 1) h (stepped (nearest_root (clamped d.lo)) (lower_fits d.lo td.0)
        (root_floor d.lo td.0 w.low_end)).1)
        (upper_floor t.hi S C (sqrt_fits d t z).1 (sqrt_within d t S C td z w).high_end))
