-- The order of finite floats is the order of their units: `lt` and `le` cross-multiply, and so do units. So a definite
-- answer about two intervals holds of all that lies within them.
use Rattle.std.proofs.Common.{◌≡◌, ℕ, ◌+◌, ◌*◌, ◌^◌, ◌<◌, Bool, true, false, ◌||◌, T, eqb, ◌⊎◌, ℤ, pos, ◌*ℤ◌, sym, ap}
use Rattle.std.proofs.Common.{◌∙◌, subst, inl, inr, le_of_eq, le_of_lt, mul_comm, add-mul, lt_of_mul-lt-mul_right}
use Rattle.std.proofs.Common.{eq-or-lt_of_le, mul-lt-mul_of_pos_right, mul-pos, arith, eqb→eq, ltb→lt, lt→ltb, pow_pos}
use native.Mathlib.Nat.{eq_of_mul-eq-mul_right}
use lib.Dec.{not_T}
use lib.Signed.{le_z, lt_z}
use lib.Ieee.{Float, nan, inf, fin, binary64, low, up, down, lt, le, eq, below, level, fits}
use lib.Ieee.Bits.{is_false}
use lib.Ieee.Fits.{down_pos, and_i, and_l, and_r, eq→eqb}
use lib.Ieee.Scale.{finite}
use Rattle.interval.specs.declared.Scalar.{Scalar}
use Rattle.interval.specs.Enclosure.{units_of, Fits}
use Rattle.interval.specs.OneSided.{LowerBound, UpperBound, Within}
use Rattle.interval.specs.Scalar.{definitely_less, definitely_greater}
use Rattle.interval.proofs.Integers.{P, N, le_of_parts, parts_of_le, lt_of_parts, parts_of_lt}
use Rattle.interval.proofs.Enclosure.Add.{pp, nn, over, plain_fits, scaled_le}

-- ---- the tests of two sizes with signs, as differences
below_parts : (s : Bool) (a : ℕ) (t : Bool) (b : ℕ) → T (below s a t b) → pp s a + nn t b < pp t b + nn s a
below_parts false a false b h = omega (arith, ltb→lt a b h)
below_parts false a true b h = absurd h
below_parts true a false b h = omega (arith, ltb→lt 0 (a + b) h)
below_parts true a true b h = omega (arith, ltb→lt b a h)

parts_below : (s : Bool) (a : ℕ) (t : Bool) (b : ℕ) → pp s a + nn t b < pp t b + nn s a → T (below s a t b)
parts_below false a false b h = lt→ltb a b (omega arith)
parts_below false a true b h = absurd (omega arith)
parts_below true a false b h = lt→ltb 0 (a + b) (omega arith)
parts_below true a true b h = lt→ltb b a (omega arith)

level_parts : (s : Bool) (a : ℕ) (t : Bool) (b : ℕ) → T (level s a t b) → pp s a + nn t b ≡ pp t b + nn s a
level_parts false a false b h = omega (arith, eqb→eq a b (and_l (eqb a b) true h))
level_parts false a true b h =
    omega (arith, eqb→eq a b (and_l (eqb a b) (eqb a 0) h), eqb→eq a 0 (and_r (eqb a b) (eqb a 0) h))
level_parts true a false b h =
    omega (arith, eqb→eq a b (and_l (eqb a b) (eqb a 0) h), eqb→eq a 0 (and_r (eqb a b) (eqb a 0) h))
level_parts true a true b h = omega (arith, eqb→eq a b (and_l (eqb a b) true h))

parts_level : (s : Bool) (a : ℕ) (t : Bool) (b : ℕ) → pp s a + nn t b ≡ pp t b + nn s a → T (level s a t b)
parts_level false a false b h = and_i (eqb a b) true (eq→eqb {a = a} {b = b} (omega arith)) tt
parts_level false a true b h =
    and_i (eqb a b) (eqb a 0) (eq→eqb {a = a} {b = b} (omega arith)) (eq→eqb {a = a} {b = 0} (omega arith))
parts_level true a false b h =
    and_i (eqb a b) (eqb a 0) (eq→eqb {a = a} {b = b} (omega arith)) (eq→eqb {a = a} {b = 0} (omega arith))
parts_level true a true b h = and_i (eqb a b) true (eq→eqb {a = a} {b = b} (omega arith)) tt

-- ---- two numbers over one denominator are in the order of their units
over_lt : (m n m' n' l d : ℕ) → 0 < l → m * l ≡ m' * d → n * l ≡ n' * d → m < n → m' < n'
over_lt m n m' n' l d L a b h =
    let k : m * l < n * l = mul-lt-mul_of_pos_right h L in lt_of_mul-lt-mul_right d (omega arith)

over_eq : (m n m' n' l d : ℕ) → 0 < d → m * l ≡ m' * d → n * l ≡ n' * d → m ≡ n → m' ≡ n'
over_eq m n m' n' l d D a b h = eq_of_mul-eq-mul_right d D m' n' (sym a ∙ ap (λ (z : ℕ). z * l) h ∙ b)

joint : (a b x y l d : ℕ) → a * l ≡ x * d → b * l ≡ y * d → (a + b) * l ≡ (x + y) * d
joint a b x y l d p q = add-mul a b l ∙ ap (λ (z : ℕ). z + b * l) p ∙ ap (λ (z : ℕ). x * d + z) q ∙ sym (add-mul x y d)

module _ (s : Bool) (m : ℕ) (e : ℤ) (t : Bool) (n : ℕ) (d : ℤ) (tx : T (fits binary64 (fin s m e)))
    (ty : T (fits binary64 (fin t n d))) where
  second : (pp t (n * up d * down e) * 2 ^ low binary64 ≡ P (units_of binary64 (fin t n d)) * (down e * down d))
      × (nn t (n * up d * down e) * 2 ^ low binary64 ≡ N (units_of binary64 (fin t n d)) * (down e * down d))
  second = subst (λ (z : ℕ). (pp t (n * up d * down e) * 2 ^ low binary64 ≡ P (units_of binary64 (fin t n d)) * z)
      × (nn t (n * up d * down e) * 2 ^ low binary64 ≡ N (units_of binary64 (fin t n d)) * z))
      (mul_comm (down d) (down e)) (over binary64 t n d (down e) (plain_fits t n d ty))

  left : (pp s (m * up e * down d) + nn t (n * up d * down e)) * 2 ^ low binary64
      ≡ (P (units_of binary64 (fin s m e)) + N (units_of binary64 (fin t n d))) * (down e * down d)
  left = joint _ _ _ _ (2 ^ low binary64) (down e * down d)
      (over binary64 s m e (down d) (plain_fits s m e tx)).0 second.1

  right : (pp t (n * up d * down e) + nn s (m * up e * down d)) * 2 ^ low binary64
      ≡ (P (units_of binary64 (fin t n d)) + N (units_of binary64 (fin s m e))) * (down e * down d)
  right = joint _ _ _ _ (2 ^ low binary64) (down e * down d) second.0
      (over binary64 s m e (down d) (plain_fits s m e tx)).1

pub lt_units : (x y : Float) → T (fits binary64 x) → T (finite x) → T (fits binary64 y) → T (finite y) → T (lt x y)
    → T (lt_z (units_of binary64 x) (units_of binary64 y))
unfolding lt
lt_units (fin s m e) (fin t n d) tx hx ty hy h =
    lt_of_parts (units_of binary64 (fin s m e)) (units_of binary64 (fin t n d))
    (over_lt _ _ _ _ (2 ^ low binary64) (down e * down d) (pow_pos (low binary64)) (left s m e t n d tx ty)
    (right s m e t n d tx ty) (below_parts s (m * up e * down d) t (n * up d * down e) h))
lt_units nan y tx hx ty hy h = elim hx [ ]
lt_units (inf _) y tx hx ty hy h = elim hx [ ]
lt_units (fin s m e) nan tx hx ty hy h = elim hy [ ]
lt_units (fin s m e) (inf _) tx hx ty hy h = elim hy [ ]

pub units_lt : (x y : Float) → T (fits binary64 x) → T (finite x) → T (fits binary64 y) → T (finite y)
    → T (lt_z (units_of binary64 x) (units_of binary64 y)) → T (lt x y)
unfolding lt
units_lt (fin s m e) (fin t n d) tx hx ty hy h =
    parts_below s (m * up e * down d) t (n * up d * down e)
    (over_lt _ _ _ _ (down e * down d) (2 ^ low binary64) (mul-pos (down_pos e) (down_pos d)) (sym (left s m e t n d tx
    ty)) (sym (right s m e t n d tx ty))
    (parts_of_lt (units_of binary64 (fin s m e)) (units_of binary64 (fin t n d)) h))
units_lt nan y tx hx ty hy h = elim hx [ ]
units_lt (inf _) y tx hx ty hy h = elim hx [ ]
units_lt (fin s m e) nan tx hx ty hy h = elim hy [ ]
units_lt (fin s m e) (inf _) tx hx ty hy h = elim hy [ ]

either : (a b : Bool) → T (a || b) → T a ⊎ T b
either true b h = inl tt
either false b h = inr h

or_first : (a b : Bool) → T a → T (a || b)
or_first true b h = tt
or_first false b h = absurd h

or_second : (a b : Bool) → T b → T (a || b)
or_second true b h = tt
or_second false b h = h

pub le_units : (x y : Float) → T (fits binary64 x) → T (finite x) → T (fits binary64 y) → T (finite y) → T (le x y)
    → T (le_z (units_of binary64 x) (units_of binary64 y))
unfolding le eq
le_units (fin s m e) (fin t n d) tx hx ty hy h =
    let x = fin s m e in
    let y = fin t n d in
    le_of_parts (units_of binary64 x) (units_of binary64 y) (elim (either (lt x y) (eq x y) h) [
      | inl k ↦ le_of_lt (parts_of_lt (units_of binary64 x) (units_of binary64 y) (lt_units x y tx tt ty tt k))
      | inr k ↦ le_of_eq (over_eq _ _ _ _ (2 ^ low binary64) (down e * down d) (mul-pos (down_pos e) (down_pos d)) (left
          s m e t n d tx ty) (right s m e t n d tx ty) (level_parts s (m * up e * down d) t (n * up d * down e) k))
    ])
le_units nan y tx hx ty hy h = elim hx [ ]
le_units (inf _) y tx hx ty hy h = elim hx [ ]
le_units (fin s m e) nan tx hx ty hy h = elim hy [ ]
le_units (fin s m e) (inf _) tx hx ty hy h = elim hy [ ]

pub units_le : (x y : Float) → T (fits binary64 x) → T (finite x) → T (fits binary64 y) → T (finite y)
    → T (le_z (units_of binary64 x) (units_of binary64 y)) → T (le x y)
unfolding le eq
units_le (fin s m e) (fin t n d) tx hx ty hy h =
    let x = fin s m e in
    let y = fin t n d in
    elim (eq-or-lt_of_le (parts_of_le (units_of binary64 x) (units_of binary64 y) h)) [
      | inr k ↦ or_first (lt x y) (eq x y)
          (units_lt x y tx tt ty tt (lt_of_parts (units_of binary64 x) (units_of binary64 y) k))
      | inl k ↦ or_second (lt x y) (eq x y)
          (parts_level s (m * up e * down d) t (n * up d * down e) (over_eq _ _ _ _ (down e * down d) (2 ^ low binary64)
          (pow_pos (low binary64)) (sym (left s m e t n d tx ty)) (sym (right s m e t n d tx ty)) k))
    ]
units_le nan y tx hx ty hy h = elim hx [ ]
units_le (inf _) y tx hx ty hy h = elim hx [ ]
units_le (fin s m e) nan tx hx ty hy h = elim hy [ ]
units_le (fin s m e) (inf _) tx hx ty hy h = elim hy [ ]

-- ---- intervals: p ≤ x < y ≤ q
between : (a b p q : ℤ) (c l : ℕ) → 0 < c → T (lt_z a b) → T (le_z (p *ℤ pos l) (a *ℤ pos c))
    → T (le_z (b *ℤ pos c) (q *ℤ pos l)) → T (lt_z p q)
between a b p q c l C h x y =
    let k : (P a + N b) * c < (P b + N a) * c = mul-lt-mul_of_pos_right (parts_of_lt a b h) C in
    lt_of_parts p q (lt_of_mul-lt-mul_right l (omega (
      arith,
      scaled_le p a l c x,
      scaled_le b q c l y,
      add-mul (P a) (N b) c,
      add-mul (P b) (N a) c,
      add-mul (P p) (N q) l,
      add-mul (P q) (N p) l,
    )))

-- nothing is above +inf or below -inf
no_above : (x y : Float) → x ≡ inf false → T (lt x y) → ⊥
no_above x y e h = go y (subst (λ (z : Float). T (lt z y)) e h)
  where
    go : (y : Float) → T (lt (inf false) y) → ⊥
    go nan h = unfold lt in h
    go (inf t) h = unfold lt in h
    go (fin t n d) h = unfold lt in h

no_below : (x y : Float) → y ≡ inf true → T (lt x y) → ⊥
no_below x y e h = go x (subst (λ (z : Float). T (lt x z)) e h)
  where
    go : (x : Float) → T (lt x (inf true)) → ⊥
    go nan h = unfold lt in h
    go (inf true) h = unfold lt in h
    go (inf false) h = unfold lt in h
    go (fin t n d) h = unfold lt in h

-- an upper end of p / c below a lower end of q / c
pub lt_bounds : (x y : Float) (p q : ℤ) (c : ℕ) → 0 < c → T (fits binary64 x) → T (fits binary64 y) → UpperBound x p c
    → LowerBound y q c → T (lt x y) → T (lt_z p q)
lt_bounds x y p q c C tx ty (inl e) b h = absurd (no_above x y e h)
lt_bounds x y p q c C tx ty (inr a) (inl e) h = absurd (no_below x y e h)
lt_bounds x y p q c C tx ty (inr a) (inr b) h = between (units_of binary64 x) (units_of binary64 y) p q c
    (2 ^ low binary64) C (lt_units x y tx a.0 ty b.0 h) a.1 b.1

pub less_within : (x y : Scalar) (p q : ℤ) (c : ℕ) → 0 < c → Fits x → Fits y → Within x p c → Within y q c
    → T (definitely_less x y) → T (lt_z p q)
less_within x y p q c C tx ty a b h = lt_bounds x.hi y.lo p q c C tx.1 ty.0 a.high_end b.low_end h

pub greater_within : (x y : Scalar) (p q : ℤ) (c : ℕ) → 0 < c → Fits x → Fits y → Within x p c → Within y q c
    → T (definitely_greater x y) → T (lt_z q p)
greater_within x y p q c C tx ty a b h = less_within y x q p c C ty tx b a h

-- so two choices the other way round refute it
pub not_less : (x y : Scalar) (p q : ℤ) (c : ℕ) → 0 < c → Fits x → Fits y → Within x p c → Within y q c → T (le_z q p)
    → definitely_less x y ≡ false
not_less x y p q c C tx ty a b k = is_false (definitely_less x y) (not_T (definitely_less x y)
    (λ h. omega (arith, parts_of_lt p q (less_within x y p q c C tx ty a b h), parts_of_le q p k)))

pub not_greater : (x y : Scalar) (p q : ℤ) (c : ℕ) → 0 < c → Fits x → Fits y → Within x p c → Within y q c
    → T (le_z p q)
    → definitely_greater x y ≡ false
not_greater x y p q c C tx ty a b k = not_less y x q p c C ty tx b a k
