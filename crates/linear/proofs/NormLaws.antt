-- A norm holds the root of the exact sum of squares, each end by itself. The greatest end g is sharp, so each value
-- over g, their squares' sum, its root and g times that root hold the exact ones; where 1 / g overflows, only upper
-- ends become infinite.
use mathlib.Core.Path.{◌≡◌, refl, sym, ap, ◌∙◌, subst}
use mathlib.Core.Logic.{inl, inr}
use Prim.Native.Nat.{ℕ, zero, suc, ◌+◌, ◌*◌, ◌^◌, ◌<◌, zero-le}
use native.Mathlib.Nat.{le_trans, mul-pos, zero-lt-suc, lt-suc_self, le-suc, mul_comm, mul_assoc, mul-mul-mul_comm}
use native.Mathlib.Nat.{add-mul, zero-mul}
use native.Mathlib.Omega.{arith}
use mathlib.Core.Bool.{Bool, true, false, ◌&&◌}
use lib.Dec.{T, lt→ltb, le→leb}
use lib.Pow.{pow_pos}
use lib.IntN.{ℤ, pos, negsuc, nat_abs, ◌+ℤ◌, ◌*ℤ◌}
use lib.Signed.{le_z, lt_z}
use lib.Ieee.{Float, binary64, low, fits, le, lt, neg, of_bits}
use lib.Ieee.Scale.{finite}
use Rattle.interval.specs.declared.Scalar.{Scalar}
use Rattle.interval.specs.Enclosure.{units_of, Fits, Finite}
use Rattle.interval.specs.Float.{greater}
use Rattle.interval.specs.OneSided.{Within, WithinRoot}
use Rattle.interval.specs.Result.{ok, refused}
use Rattle.interval.specs.Root.{nearest_root}
use Rattle.interval.specs.Scalar.{zero64, zero_s, pick, degenerate, inverse, holds_zero, add_of, sub_of, mul_of, div_of}
use Rattle.interval.specs.Scalar.{abs_of, max_of, sqrt_of, clamped, outward, definitely_less, definitely_greater}
use Rattle.interval.specs.Step.{next_up}
use Rattle.interval.proofs.Bounded.Roots.{sqrt_given}
use Rattle.interval.proofs.Corners.{le_z-eq, mono, scale_mul}
use Rattle.interval.proofs.Infinite.{Zero, zero-P}
use Rattle.interval.proofs.Integers.{P, N, parts_of_le, parts_of_lt}
use Rattle.interval.proofs.MinMax.{either, either_min, either_max}
use Rattle.interval.proofs.OneSided.Abs.{abs_fits, abs_finite, zero_none}
use Rattle.interval.proofs.OneSided.Add.{add_within}
use Rattle.interval.proofs.OneSided.Div.{div_within, quotient_fits}
use Rattle.interval.proofs.OneSided.Ends.{holds_within, zero_fits, zero_within, outward_fits}
use Rattle.interval.proofs.OneSided.Max.{le_z-refl}
use Rattle.interval.proofs.OneSided.Mul.{square_within}
use Rattle.interval.proofs.OneSided.Sqrt.{sqrt_within, sqrt_fits}
use Rattle.interval.proofs.OrderUnits.{lt_units, le_units, not_less}
use Rattle.interval.proofs.Results.{ok_inj}
use Rattle.linear.specs.Dot.{plus_to, dot_to}
use Rattle.linear.specs.Norm.{largest_to, scaled_squares, scaled_root, norm_of}
use Rattle.linear.specs.Results.{bind}
use Rattle.linear.specs.Squares.{squares_to, Rows, Ordered, Chosen}
use Rattle.linear.proofs.Folds.{bind_ok, bind_value}
use Rattle.linear.proofs.RootLaws.{less_roots, fell_roots, times_root, root_cancel}
use Rattle.linear.proofs.SquareLaws.{square_size, squares_size, dot_fits, dot_within}

-- ---- the greatest end
pub max_sharp : (v w : Float) → max_of (degenerate v) (degenerate w) ≡ degenerate (greater v w)
max_sharp v w =
    let g = greater v w in
    let low-is = either_min g g (λ z. z ≡ g) refl refl in
    let high_is = either_max g g (λ z. z ≡ g) refl refl in
    λ i. record { lo = low-is i; hi = high_is i }

-- x is sharp, with a finite end
pub record Sharp (x : Scalar) : Type 0 where
  pub end : Float
  pub is : x ≡ degenerate end
  pub is_float : T (fits binary64 end)
  pub is-finite : T (finite end)

pub largest_sharp : (f : ℕ → Scalar) (n : ℕ) → Rows f n → Sharp (largest_to f n)
unfolding largest_to
largest_sharp f zero r = record { end = zero64; is = refl; is_float = zero_fits.0; is-finite = tt }
largest_sharp f (suc n) r =
    let h : n < suc n = lt-suc_self n in
    let w = largest_sharp f n (λ i l. r i (le_trans l (le-suc n))) in
    let b = (abs_of (f n)).hi in
    record {
      end = greater w.end b;
      is = ap (λ (z : Scalar). max_of z (degenerate b)) w.is ∙ max_sharp w.end b;
      is_float = either w.end b (λ z. T (fits binary64 z)) w.is_float (abs_fits (f n) (r n h).0).1;
      is-finite = either w.end b (λ z. T (finite z)) w.is-finite (abs_finite (f n) (r n h).1).hi_finite;
    }

-- both ends of x are suc size units: a divisor above 0
pub record Scale (x : Scalar) : Type 0 where
  pub size : ℕ
  pub is_float : Fits x
  pub is-finite : Finite x
  pub lo_is : units_of binary64 x.lo ≡ pos (suc size)
  pub hi_is : units_of binary64 x.hi ≡ pos (suc size)

pub scale_of : (x : Scalar) → Sharp x → definitely_greater x zero_s ≡ true → Scale x
scale_of x s e = subst Scale (sym s.is) (by (units_of binary64 s.end) refl (parts_of_lt (units_of binary64 zero64)
    (units_of binary64 s.end) (lt_units zero64 s.end zero_fits.0 tt s.is_float s.is-finite
    (subst T (sym (ap (λ (z : Scalar). definitely_greater z zero_s) (sym s.is) ∙ e)) tt))))
  where
    v : Float
    v = s.end

    by : (u : ℤ) → units_of binary64 v ≡ u → P (units_of binary64 zero64) + N u < P u + N (units_of binary64 zero64)
        → Scale (degenerate v)
    by (pos zero) e h = absurd (omega (arith, zero_none))
    by (negsuc m) e h = absurd (omega (arith, zero_none))
    by (pos (suc m)) e h = record {
      size = m;
      is_float = (s.is_float, s.is_float);
      is-finite = record { lo_finite = s.is-finite; hi_finite = s.is-finite };
      lo_is = e;
      hi_is = e;
    }

module _ (g : Scalar) (s : Scale g) where
  scale_within : Within g (pos (suc s.size)) (2 ^ low binary64)
  scale_within =
      let l = 2 ^ low binary64 in
      record {
        low_end = inr (s.is-finite.lo_finite, le_z-eq _ _ (ap (λ (z : ℤ). z *ℤ pos l) s.lo_is));
        high_end = inr (s.is-finite.hi_finite, le_z-eq _ _ (ap (λ (z : ℤ). z *ℤ pos l) (sym s.hi_is)));
      }

  not_zero : Zero g.lo → ⊥
  not_zero z = omega (arith, zero-P g.lo s.is_float.0 z, ap P s.lo_is)

  pub divides : holds_zero g ≡ false
  divides = go (le g.lo zero64)
      (λ h. le_units g.lo zero64 s.is_float.0 s.is-finite.lo_finite zero_fits.0 tt h)
    where
      go : (b : Bool) → (T b → T (le_z (units_of binary64 g.lo) (units_of binary64 zero64)))
          → (b && le zero64 g.hi) ≡ false
      go false k = refl
      go true k = absurd (omega (
        arith,
        parts_of_le (units_of binary64 g.lo) (units_of binary64 zero64) (k tt),
        zero_none,
        ap P s.lo_is,
        ap N s.lo_is,
      ))

  -- ---- each value over g, and the sum of the squares
  pub sum_fits : (f : ℕ → Scalar) (n : ℕ) (d : Scalar) → scaled_squares f g n ≡ ok d → Fits d
  unfolding scaled_squares bind
  sum_fits f zero d e = subst Fits (ok_inj e) zero_fits
  sum_fits f (suc n) d e =
      let a = bind_value (scaled_squares f g n) _ e in
      let q = bind_value (div_of (f n) g) _ a.2 in
      subst Fits (ok_inj q.2) (outward_fits _ _)

  pub scaled_within : (f : ℕ → Scalar) (n : ℕ) (d : Scalar) → ((i : ℕ) → i < n → Fits (f i))
      → scaled_squares f g n ≡ ok d → (p : ℕ → ℤ) (c : ℕ) → 0 < c → ((i : ℕ) → i < n → Within (f i) (p i) c)
      → Within d (squares_to (λ i. p i *ℤ pos (2 ^ low binary64)) n) (c * suc s.size * (c * suc s.size))
  unfolding scaled_squares bind squares_to
  scaled_within f zero d t e p c C a =
      subst (λ (z : Scalar). Within z (pos 0) (c * suc s.size * (c * suc s.size))) (ok_inj e)
      (zero_within (c * suc s.size * (c * suc s.size)))
  scaled_within f (suc n) d t e p c C a =
      let h : n < suc n = lt-suc_self n in
      let l = 2 ^ low binary64 in
      let k = c * suc s.size in
      let x = bind_value (scaled_squares f g n) _ e in
      let q = bind_value (div_of (f n) g) _ x.2 in
      let w = div_within (f n) g q.0 (p n) (pos (suc s.size)) c l C (pow_pos (low binary64)) (t n h) s.is_float
      q.1 (a n h) scale_within in
      let y = square_within q.0 (p n *ℤ pos l) k (mul-pos C (zero-lt-suc s.size))
      (quotient_fits (f n) g q.0 q.1) w in
      let z =
      scaled_within f n x.0 (λ i j. t i (le_trans j (le-suc n))) x.1 p c C (λ i j. a i (le_trans j (le-suc n))) in
      subst (λ (r : Scalar). Within r (squares_to (λ i. p i *ℤ pos l) n +ℤ (p n *ℤ pos l) *ℤ (p n *ℤ pos l)) (k * k))
      (ok_inj q.2)
      (add_within x.0 (mul_of q.0 q.0) (squares_to (λ i. p i *ℤ pos l) n) ((p n *ℤ pos l) *ℤ (p n *ℤ pos l))
      (k * k) (sum_fits f n x.0 x.1) (outward_fits _ _) z y)

  scaled_given : (f : ℕ → Scalar) (n : ℕ) → (d : Scalar) × (scaled_squares f g n ≡ ok d)
  unfolding scaled_squares bind
  scaled_given f zero = (zero_s, refl)
  scaled_given f (suc n) =
      let w = scaled_given f n in
      let q = mul_of (f n) (inverse g) in
      (add_of w.0 (mul_of q q), bind_ok _ w.1 ∙ bind_ok (λ q. ok (add_of w.0 (mul_of q q))) (quotient (f n)))
    where
      quotient : (x : Scalar) → div_of x g ≡ ok (mul_of x (inverse g))
      quotient x = unfold div_of in ap (λ (b : Bool). pick b (refused 6) (ok (mul_of x (inverse g)))) divides

-- ---- the norm
scaled_sum : (p : ℕ → ℤ) (l n : ℕ) → squares_to (λ i. p i *ℤ pos l) n ≡ pos (nat_abs (squares_to p n) * (l * l))
unfolding squares_to
scaled_sum p l zero = ap pos (sym (zero-mul (l * l)))
scaled_sum p l (suc n) =
    sums (l * l) (scaled_sum p l n) (scale_mul (p n) (p n) l l) (squares_size p n) (square_size (p n))
  where
    sums : {x y z w : ℤ} {a b : ℕ} (m : ℕ) → x ≡ pos (nat_abs z * m) → y ≡ w *ℤ pos m → z ≡ pos a → w ≡ pos b
        → x +ℤ y ≡ pos (nat_abs (z +ℤ w) * m)
    sums {a = a} {b = b} m ex ey ez ew = rw (ex, ey, ez, ew) (ap pos (sym (add-mul a b m)))

-- g times the root of a sum over g, without the scale
unscaled : (g r : Scalar) (k : Scale g) (s K : ℕ) → 0 < K
    → Fits r → WithinRoot r (s * (2 ^ low binary64 * 2 ^ low binary64)) (K * suc k.size * (K * suc k.size))
    → WithinRoot (mul_of g r) s (K * K)
unscaled g r k s K C t w =
    let l = 2 ^ low binary64 in
    let u = suc k.size in
    let U = zero-lt-suc k.size in
    let L = pow_pos (low binary64) in
    let c = K * u * (K * u) in
    root_cancel (mul_of g r) (u * u * (l * l)) s (K * K) (mul-pos (mul-pos U U) (mul-pos L L))
    (subst (λ (z : ℕ). WithinRoot (mul_of g r) z (u * u * (l * l) * (K * K))) (numer u s (l * l))
    (subst (WithinRoot (mul_of g r) (u * u * (s * (l * l)))) (denom K u (l * l))
    (times_root g r u l (s * (l * l)) c L (mul-pos (mul-pos C U) (mul-pos C U))
    k.is_float t (record { left = λ z y. absurd (not_zero g k z); right = λ z y. inl k.is-finite.lo_finite })
    (scale_within g k) w)))
  where
    numer : (u s m : ℕ) → u * u * (s * m) ≡ u * u * m * s
    numer u s m = ap (λ (z : ℕ). u * u * z) (mul_comm s m) ∙ sym (mul_assoc (u * u) m s)

    denom : (K u m : ℕ) → m * (K * u * (K * u)) ≡ u * u * m * (K * K)
    denom K u m = ap (λ (z : ℕ). m * z) (mul-mul-mul_comm K u K u ∙ mul_comm (K * K) (u * u))
        ∙ sym (mul_assoc m (u * u) (K * K)) ∙ ap (λ (z : ℕ). z * (K * K)) (mul_comm m (u * u))

-- which of the two ways the norm goes
pub data Way (f : ℕ → Scalar) (n : ℕ) : Type 0 where
  plain : norm_of f n ≡ sqrt_of (dot_to f f n) → Way f n
  scaled : definitely_greater (largest_to f n) zero_s ≡ true → Scale (largest_to f n)
      → norm_of f n ≡ scaled_root (largest_to f n) (scaled_squares f (largest_to f n) n) → Way f n

pub way : (f : ℕ → Scalar) (n : ℕ) → Rows f n → Way f n
unfolding norm_of
way f n r = go (definitely_greater (largest_to f n) zero_s) refl
  where
    go : (b : Bool) → definitely_greater (largest_to f n) zero_s ≡ b → Way f n
    go true e = scaled e (scale_of (largest_to f n) (largest_sharp f n r) e) (ap (λ (b : Bool).
        pick b (scaled_root (largest_to f n) (scaled_squares f (largest_to f n) n)) (sqrt_of (dot_to f f n))) e)
    go false e = plain (ap (λ (b : Bool).
        pick b (scaled_root (largest_to f n) (scaled_squares f (largest_to f n) n)) (sqrt_of (dot_to f f n))) e)

-- the sum over the scale and its root, where the norm has a value
pub data Value (f : ℕ → Scalar) (n : ℕ) (x : Scalar) : Type 0 where
  plain_root : sqrt_of (dot_to f f n) ≡ ok x → Value f n x
  scaled-root : Scale (largest_to f n) → (d t : Scalar) → scaled_squares f (largest_to f n) n ≡ ok d → sqrt_of d ≡ ok t
      → mul_of (largest_to f n) t ≡ x → Value f n x

pub norm_value : (f : ℕ → Scalar) (n : ℕ) → Rows f n → (x : Scalar) → norm_of f n ≡ ok x → Value f n x
norm_value f n r x e = go (way f n r)
  where
    g : Scalar
    g = largest_to f n

    parts : Scale g → bind (scaled_squares f g n) (λ d. bind (sqrt_of d) (λ t. ok (mul_of g t))) ≡ ok x → Value f n x
    parts s e =
        let d = bind_value (scaled_squares f g n) (λ d. bind (sqrt_of d) (λ t. ok (mul_of g t))) e in
        let t = bind_value (sqrt_of d.0) (λ t. ok (mul_of g t)) d.2 in
        scaled-root s d.0 t.0 d.1 t.1 (ok_inj t.2)

    go : Way f n → Value f n x
    go (plain q) = plain_root (sym q ∙ e)
    go (scaled h s q) = parts s (unfold scaled_root in sym q ∙ e)

pub norm_fits : (f : ℕ → Scalar) (n : ℕ) → Rows f n → (x : Scalar) → norm_of f n ≡ ok x → Fits x
norm_fits f n r x e = go (norm_value f n r x e)
  where
    go : Value f n x → Fits x
    go (plain_root q) = sqrt_fits (dot_to f f n) x q
    go (scaled-root s d t p q m) = subst Fits m (outward_fits _ _)

-- what holds a number that is not below 0 has a root
pub not_negative : (d : Scalar) (s c : ℕ) → 0 < c → Fits d → Within d (pos s) c → lt d.hi zero64 ≡ false
not_negative d s c C t w = not_less d zero_s (pos s) (pos 0) c C t zero_fits w (zero_within c) (le→leb 0 s zero-le)

-- the root of d, where it is not refused
abbrev pub root_of : Scalar → Scalar
root_of d = outward (nearest_root (clamped d.lo)) (nearest_root d.hi)

-- of scalars with choices p i / 2 ^ k
module _ (f : ℕ → Scalar) (n : ℕ) (r : Rows f n) (p : ℕ → ℤ) (k : ℕ) (a : Chosen f n p k) where
  pub plain_within : Within (dot_to f f n) (pos (nat_abs (squares_to p n))) (2 ^ k * 2 ^ k)
  plain_within = subst (λ (z : ℤ). Within (dot_to f f n) z (2 ^ k * 2 ^ k)) (squares_size p n) (dot_within f n r p k a)

  pub sum_not_negative : lt (dot_to f f n).hi zero64 ≡ false
  sum_not_negative = not_negative (dot_to f f n) (nat_abs (squares_to p n)) (2 ^ k * 2 ^ k)
      (mul-pos (pow_pos k) (pow_pos k)) (dot_fits f f n) plain_within

  pub over_within : (g : Scalar) (s : Scale g) (d : Scalar) → scaled_squares f g n ≡ ok d
      → Within d (pos (nat_abs (squares_to p n) * (2 ^ low binary64 * 2 ^ low binary64)))
      (2 ^ k * suc s.size * (2 ^ k * suc s.size))
  over_within g s d e =
      subst (λ (z : ℤ). Within d z (2 ^ k * suc s.size * (2 ^ k * suc s.size)))
      (scaled_sum p (2 ^ low binary64) n)
      (scaled_within g s f n d (λ i h. (r i h).0) e p (2 ^ k) (pow_pos k)
      (λ i h. holds_within (f i) (p i) (2 ^ k) (r i h).1 (a i h).inside))

  pub scaled_not_negative : (g : Scalar) (s : Scale g) (d : Scalar) → scaled_squares f g n ≡ ok d
      → lt d.hi zero64 ≡ false
  scaled_not_negative g s d e =
      let C : 0 < 2 ^ k * suc s.size = mul-pos (pow_pos k) (zero-lt-suc s.size) in
      not_negative d _ _ (mul-pos C C) (sum_fits g s f n d e) (over_within g s d e)

  pub norm_within : (x : Scalar) → norm_of f n ≡ ok x → WithinRoot x (nat_abs (squares_to p n)) (2 ^ k * 2 ^ k)
  norm_within x e = go (norm_value f n r x e)
    where
      go : Value f n x → WithinRoot x (nat_abs (squares_to p n)) (2 ^ k * 2 ^ k)
      go (plain_root q) =
          sqrt_within (dot_to f f n) x (nat_abs (squares_to p n)) (2 ^ k * 2 ^ k) (dot_fits f f n) q plain_within
      go (scaled-root s d t y z m) =
          let g = largest_to f n in
          subst (λ (z : Scalar). WithinRoot z (nat_abs (squares_to p n)) (2 ^ k * 2 ^ k)) m
          (unscaled g t s (nat_abs (squares_to p n)) (2 ^ k) (pow_pos k) (sqrt_fits d t z)
          (sqrt_within d t _ _ (sum_fits g s f n d y) z (over_within g s d y)))

  pub norm_chosen : (x : Scalar) × (norm_of f n ≡ ok x)
  norm_chosen = go (way f n r)
    where
      go : Way f n → (x : Scalar) × (norm_of f n ≡ ok x)
      go (plain q) = (root_of (dot_to f f n), q ∙ sqrt_given (dot_to f f n) sum_not_negative)
      go (scaled h s q) =
          let g = largest_to f n in
          let d = scaled_given g s f n in (
            mul_of g (root_of d.0),
            q ∙ (unfold scaled_root in bind_ok (λ d. bind (sqrt_of d) (λ t. ok (mul_of g t))) d.1
                ∙ bind_ok (λ t. ok (mul_of g t)) (sqrt_given d.0 (scaled_not_negative g s d.0 d.1))),
          )

-- ordered ends have a choice, the lower end: so the norm is never refused
pub lower_ends : (f : ℕ → Scalar) (n : ℕ) → Rows f n → Ordered f n
    → Chosen f n (λ i. units_of binary64 (f i).lo) (low binary64)
lower_ends f n r o i h = record {
  is-finite = (r i h).1;
  inside = record {
    from_lo = le_z-refl (units_of binary64 (f i).lo *ℤ pos (2 ^ low binary64));
    to_hi = mono (units_of binary64 (f i).lo) (units_of binary64 (f i).hi) (2 ^ low binary64)
        (le_units (f i).lo (f i).hi (r i h).0.0 (r i h).1.lo_finite (r i h).0.1 (r i h).1.hi_finite (o i h));
  };
}

pub norm_given : (f : ℕ → Scalar) (n : ℕ) → Rows f n → Ordered f n → (x : Scalar) × (norm_of f n ≡ ok x)
norm_given f n r o = norm_chosen f n r (λ i. units_of binary64 (f i).lo) (low binary64) (lower_ends f n r o)

-- ---- a definite answer about two norms, of n and of m scalars
module _ (f g : ℕ → Scalar) (n m : ℕ) (rf : Rows f n) (rg : Rows g m) (x y : Scalar) (ex : norm_of f n ≡ ok x)
    (ey : norm_of g m ≡ ok y) where
  exact_less : (p q : ℕ → ℤ) → nat_abs (squares_to q m) < nat_abs (squares_to p n)
      → T (lt_z (squares_to q m) (squares_to p n))
  exact_less p q h =
      rw (squares_size q m, squares_size p n) (lt→ltb (nat_abs (squares_to q m)) (nat_abs (squares_to p n)) h)

  pub norm_less : T (definitely_less y x) → (p q : ℕ → ℤ) (k : ℕ) → Chosen f n p k → Chosen g m q k
      → T (lt_z (squares_to q m) (squares_to p n))
  norm_less h p q k a b =
      exact_less p q (less_roots x y _ _ (2 ^ k * 2 ^ k) (mul-pos (pow_pos k) (pow_pos k)) (norm_fits f n rf x ex)
      (norm_fits g m rg y ey) (norm_within f n rf p k a x ex) (norm_within g m rg q k b y ey) h)

  -- the fall from one to the other
  pub norm_fell : T (definitely_greater (sub_of x y) zero_s) → (p q : ℕ → ℤ) (k : ℕ) → Chosen f n p k → Chosen g m q k
      → T (lt_z (squares_to q m) (squares_to p n))
  norm_fell h p q k a b =
      exact_less p q (fell_roots x y _ _ (2 ^ k * 2 ^ k) (mul-pos (pow_pos k) (pow_pos k)) (norm_fits f n rf x ex)
      (norm_fits g m rg y ey) (norm_within f n rf p k a x ex) (norm_within g m rg q k b y ey) h)

-- ---- of none: [-2 ^ -1074, 2 ^ -1074]
pub norm_empty : (f : ℕ → Scalar)
    → norm_of f 0 ≡ ok (record { lo = of_bits binary64 0x8000_0000_0000_0001; hi = of_bits binary64 1 })
unfolding norm_of largest_to plus_to sqrt_of clamped nearest_root next_up neg lt of_bits
norm_empty f = refl
