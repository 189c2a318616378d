-- The magnitude of a norm. The greatest end is at least each end's size, and it is between two powers of two: so each
-- value over it is at most 2 ^ 3, whatever the size, and the norm is bounded as the values are.
use mathlib.Core.Path.{◌≡◌, refl, sym, ap, ◌∙◌, subst}
use mathlib.Core.Logic.{◌⊎◌, inl, inr, ⊎_elim}
use Prim.Native.Nat.{ℕ, zero, suc, ◌+◌, ◌*◌, ◌^◌, ◌≤◌, ◌<◌}
use native.Mathlib.Nat.{le_refl, le_trans, le_of_eq, le_of_lt, le-add_right, lt-suc_self, le-suc, not-suc-le-zero}
use native.Mathlib.Nat.{le_of_suc-le-suc, eq-or-lt_of_le}
use native.Mathlib.Omega.{arith}
use mathlib.Core.Bool.{true, false}
use lib.Dec.{T, leb, leb→le, le→leb}
use lib.Pow.{pow_pos, pow_mono}
use lib.IntN.{ℤ, pos, negsuc, nat_abs, ◌*ℤ◌}
use lib.Signed.{le_z}
use lib.Ieee.{Float, binary64, low, fits, le}
use lib.Ieee.Scale.{finite}
use Rattle.interval.specs.declared.Scalar.{Scalar}
use Rattle.interval.specs.Bounded.{Small, Bounded, Far, BoundedResult}
use Rattle.interval.specs.Enclosure.{units_of, Fits, Finite}
use Rattle.interval.specs.Float.{greater}
use Rattle.interval.specs.OneSided.{Within}
use Rattle.interval.specs.Result.{Res, ok}
use Rattle.interval.specs.Scalar.{zero_s, degenerate, add_of, mul_of, div_of, abs_of, max_of, sqrt_of}
use Rattle.interval.specs.Scalar.{definitely_greater}
use Rattle.interval.proofs.Bounded.Ends.{bounded_weaken, zero_bounded, abs_bounded, max_bounded}
use Rattle.interval.proofs.Bounded.Product.{mul_bounded}
use Rattle.interval.proofs.Bounded.Quotient.{div_bounded}
use Rattle.interval.proofs.Bounded.Roots.{sqrt_bounded}
use Rattle.interval.proofs.Bounded.Sum.{add_bounded}
use Rattle.interval.proofs.Corners.{le_z-trans, mono, unscale}
use Rattle.interval.proofs.Integers.{P}
use Rattle.interval.proofs.MinMax.{either}
use Rattle.interval.proofs.OneSided.Abs.{abs_within, abs_fits, abs_finite}
use Rattle.interval.proofs.OneSided.Ends.{says}
use Rattle.interval.proofs.OneSided.Max.{le_z-refl}
use Rattle.interval.proofs.Order.{finite_number, greater_rank, rank_units}
use Rattle.interval.proofs.OrderUnits.{le_units}
use Rattle.interval.proofs.Rank.{le_or_lt}
use Rattle.linear.specs.Dot.{dot_to}
use Rattle.linear.specs.Norm.{largest_to, scaled_squares, scaled_root, norm_of}
use Rattle.linear.specs.Results.{bind}
use Rattle.linear.specs.Squares.{Rows, Ordered}
use Rattle.linear.proofs.Folds.{bind_ok}
use Rattle.linear.proofs.NormLaws.{largest_sharp, max_sharp, Scale, Way, way, plain, scaled, lower_ends}
use Rattle.linear.proofs.NormLaws.{sum_not_negative, scaled_not_negative}
use Rattle.linear.proofs.SquareLaws.{bounded_rows, dots_bounded}

-- ---- the greatest end is at least the size of each end
abs_size : (x : Scalar) → Fits x → Finite x → T (le x.lo x.hi)
    → T (le_z (pos (nat_abs (units_of binary64 x.lo))) (units_of binary64 (abs_of x).hi))
    × T (le_z (pos (nat_abs (units_of binary64 x.hi))) (units_of binary64 (abs_of x).hi))
abs_size x t f o =
    let l = 2 ^ low binary64 in
    let u = units_of binary64 x.lo in
    let v = units_of binary64 x.hi in
    let h = mono u v l (le_units x.lo x.hi t.0 f.lo_finite t.1 f.hi_finite o) in (
      size u (record { low_end = inr (f.lo_finite, le_z-refl (u *ℤ pos l)); high_end = inr (f.hi_finite, h) }),
      size v (record { low_end = inr (f.lo_finite, h); high_end = inr (f.hi_finite, le_z-refl (v *ℤ pos l)) }),
    )
  where
    size : (u : ℤ) → Within x u (2 ^ low binary64) → T (le_z (pos (nat_abs u)) (units_of binary64 (abs_of x).hi))
    size u w = unscale (pos (nat_abs u)) (units_of binary64 (abs_of x).hi) (2 ^ low binary64) (pow_pos (low binary64))
        (says (abs_of x).hi (abs_finite x f).hi_finite (abs_within x u (2 ^ low binary64) t w).high_end)

-- both ends of x are of at most u units
abbrev Covered : Scalar → ℤ → Type 0
Covered x u = T (le_z (pos (nat_abs (units_of binary64 x.lo))) u) × T (le_z (pos (nat_abs (units_of binary64 x.hi))) u)

wider : (x : Scalar) (u v : ℤ) → T (le_z u v) → Covered x u → Covered x v
wider x u v h c = (
  le_z-trans (pos (nat_abs (units_of binary64 x.lo))) u v c.0 h,
  le_z-trans (pos (nat_abs (units_of binary64 x.hi))) u v c.1 h,
)

pub covers : (f : ℕ → Scalar) (n : ℕ) → Rows f n → Ordered f n → (i : ℕ) → i < n
    → Covered (f i) (units_of binary64 (largest_to f n).hi)
unfolding largest_to
covers f zero r o i h = absurd (not-suc-le-zero h)
covers f (suc n) r o i h =
    let j : n < suc n = lt-suc_self n in
    let q : Rows f n = λ i l. r i (le_trans l (le-suc n)) in
    let s = largest_sharp f n q in
    let v = s.end in
    let b = (abs_of (f n)).hi in
    let fb = (abs_finite (f n) (r n j).1).hi_finite in
    let tb = (abs_fits (f n) (r n j).0).1 in
    let g = greater_rank v b (finite_number v s.is_float s.is-finite) (finite_number b tb fb) in
    let k : T (finite (greater v b)) = either v b (λ z. T (finite z)) s.is-finite fb in
    subst (λ (G : Scalar). Covered (f i) (units_of binary64 G.hi))
    (sym (ap (λ (G : Scalar). max_of G (degenerate b)) s.is ∙ max_sharp v b))
    (⊎_elim
    (λ e. rw e (wider (f n) (units_of binary64 b) (units_of binary64 (greater v b))
    (rank_units b (greater v b) tb fb g.0.0 k g.2) (abs_size (f n) (r n j).0 (r n j).1 (o n j))))
    (λ l. wider (f i) (units_of binary64 v) (units_of binary64 (greater v b))
    (rank_units v (greater v b) s.is_float s.is-finite g.0.0 k g.1) (subst (λ (G : Scalar).
    Covered (f i) (units_of binary64 G.hi)) s.is (covers f n q (λ i l. o i (le_trans l (le-suc n))) i l)))
    (eq-or-lt_of_le (le_of_suc-le-suc h)))

-- so an end of at least 2 ^ k units makes it that far from 0
pub largest_far : (f : ℕ → Scalar) (n : ℕ) → Rows f n → Ordered f n → (i k : ℕ) → i < n
    → T (leb (2 ^ k) (nat_abs (units_of binary64 (f i).lo))) ⊎ T (leb (2 ^ k) (nat_abs (units_of binary64 (f i).hi)))
    → Far false (largest_to f n).lo k
largest_far f n r o i k h e =
    let s = largest_sharp f n r in
    let c = covers f n r o i h in
    let u = units_of binary64 (largest_to f n).hi in
    let w : T (le_z (pos (2 ^ k)) u) = elim e [
      | inl g ↦ le_z-trans (pos (2 ^ k)) (pos (nat_abs (units_of binary64 (f i).lo))) u g c.0
      | inr g ↦ le_z-trans (pos (2 ^ k)) (pos (nat_abs (units_of binary64 (f i).hi))) u g c.1
    ] in
    subst (λ (G : Scalar). Far false G.lo k) (sym s.is) (record {
      is_float = s.is_float;
      is-finite = s.is-finite;
      at_least = subst (λ (G : Scalar). T (le_z (pos (2 ^ k)) (units_of binary64 G.hi))) s.is w;
    })

pub largest_bounded : (f : ℕ → Scalar) (n a : ℕ) → ((i : ℕ) → i < n → Bounded (f i) a) → Bounded (largest_to f n) a
unfolding largest_to
largest_bounded f zero a b = zero_bounded a
largest_bounded f (suc n) a b =
    let w = abs_bounded (f n) a (b n (lt-suc_self n)) in
    max_bounded (largest_to f n) (degenerate (abs_of (f n)).hi) a (largest_bounded f n a
    (λ i l. b i (le_trans l (le-suc n)))) (record { lo_small = w.hi_small; hi_small = w.hi_small })

-- ---- between two powers of two
pub record Graded (u b a : ℕ) : Type 0 where
  pub grade : ℕ
  pub from : b ≤ grade
  pub to : grade ≤ a
  pub at_least : 2 ^ grade ≤ u
  pub at_most : u ≤ 2 ^ (grade + 1)

graded : (d b u : ℕ) → 2 ^ b ≤ u → u ≤ 2 ^ (b + d) → Graded u b (b + d)
graded zero b u h k = record {
  grade = b;
  from = le_refl b;
  to = le-add_right b 0;
  at_least = h;
  at_most = le_trans k (pow_mono (omega arith));
}
graded (suc d) b u h k = elim (le_or_lt u (2 ^ (b + 1))) [
  | inl g ↦ record { grade = b; from = le_refl b; to = le-add_right b (suc d); at_least = h; at_most = g }
  | inr g ↦
      let e : b + 1 + d ≡ b + suc d = omega arith in
      let w = graded d (b + 1) u (le_of_lt g) (subst (λ (z : ℕ). u ≤ 2 ^ z) (sym e) k) in
      record {
        grade = w.grade;
        from = omega (arith, w.from);
        to = omega (arith, w.to);
        at_least = w.at_least;
        at_most = w.at_most;
      }
]

small_under : (v : Float) (u : ℤ) (k : ℕ) → T (fits binary64 v) → T (finite v)
    → T (le_z (pos (nat_abs (units_of binary64 v))) u) → P u ≤ 2 ^ k → Small v k
small_under v u k t f h g = record {
  is_float = t;
  is-finite = f;
  at_most = le→leb (nat_abs (units_of binary64 v)) (2 ^ k) (le_trans (first (nat_abs (units_of binary64 v)) u h) g);
}
  where
    first : (a : ℕ) (u : ℤ) → T (le_z (pos a) u) → a ≤ P u
    first a (pos b) h = leb→le a b h
    first a (negsuc b) h = absurd h

-- ---- the sum over the scale
scaled_bounded : (f : ℕ → Scalar) (g : Scalar) (n : ℕ) → 1081 + 2 * n < 2098
    → ((i : ℕ) → i < n → BoundedResult (div_of (f i) g) 1077) → BoundedResult (scaled_squares f g n) (1081 + 2 * n)
unfolding scaled_squares bind
scaled_bounded f g zero K h = record { result = zero_s; given = refl; bounded = zero_bounded (1081 + 2 * 0) }
scaled_bounded f g (suc n) K h =
    let w = scaled_bounded f g n (omega arith) (λ i l. h i (le_trans l (le-suc n))) in
    let q = h n (lt-suc_self n) in
    let x = q.result in
    let e : 1081 + 2 * suc n ≡ 1081 + 2 * n + 2 = omega arith in
    let m = mul_bounded x x 1077 1077 1080 q.bounded q.bounded (omega arith) (omega arith) in
    record {
      result = add_of w.result (mul_of x x);
      given = bind_ok _ w.given ∙ bind_ok (λ q. ok (add_of w.result (mul_of q q))) q.given;
      bounded = subst (Bounded (add_of w.result (mul_of x x))) (sym e) (add_bounded w.result (mul_of x x)
          (1081 + 2 * n) w.bounded (bounded_weaken (mul_of x x) 1081 (1081 + 2 * n) (omega arith) m) (omega arith));
    }

-- ---- the norm, of at most 24 scalars with ordered ends
module _ (f : ℕ → Scalar) (n a : ℕ) (few : n ≤ 24) (b : (i : ℕ) → i < n → Bounded (f i) a) (o : Ordered f n) where
  rows : Rows f n
  rows = bounded_rows f n a b

  plain_bounded : (k j : ℕ) → a + a ≤ k + 1074 → k + 1 + 2 * n + 1074 ≤ j + j → k + 1 + 2 * n < 2098 → j + 1 < 2098
      → BoundedResult (sqrt_of (dot_to f f n)) (j + 1)
  plain_bounded k j s t K J =
      sqrt_bounded (dot_to f f n) (k + 1 + 2 * n) j (dots_bounded f f a a k n s K b b)
      (sum_not_negative f n rows _ (low binary64) (lower_ends f n rows o)) t J

  module _ (s : Scale (largest_to f n)) (d : ℕ) (w : Graded (suc s.size) 52 d) (D : d + 31 < 2098) where
    over : (i : ℕ) → i < n → BoundedResult (div_of (f i) (largest_to f n)) 1077
    over i h =
        let c = w.grade in
        let v = covers f n rows o i h in
        let u = units_of binary64 (largest_to f n).hi in
        let k : P u ≤ 2 ^ (c + 1) = le_trans (le_of_eq (ap P s.hi_is)) w.at_most in
        let t = rows i h in
        div_bounded (f i) (largest_to f n) (c + 1) c 1076
        (record {
          lo_small = small_under (f i).lo u (c + 1) t.0.0 t.1.lo_finite v.0 k;
          hi_small = small_under (f i).hi u (c + 1) t.0.1 t.1.hi_finite v.1 k;
        })
        (record {
          side = false;
          lo_far = record { is_float = s.is_float.0; is-finite = s.is-finite.lo_finite; at_least = far s.lo_is };
          hi_far = record { is_float = s.is_float.1; is-finite = s.is-finite.hi_finite; at_least = far s.hi_is };
        })
        w.from (omega arith) (omega arith)
      where
        far : {u : ℤ} → u ≡ pos (suc s.size) → T (le_z (pos (2 ^ w.grade)) u)
        far e = subst (λ (u : ℤ). T (le_z (pos (2 ^ w.grade)) u)) (sym e)
            (le→leb (2 ^ w.grade) (suc s.size) w.at_least)

    scale_bounded : BoundedResult (scaled_root (largest_to f n) (scaled_squares f (largest_to f n) n)) (d + 31)
    unfolding scaled_root bind
    scale_bounded =
        let c = w.grade in
        let q = scaled_bounded f (largest_to f n) n (omega arith) over in
        let t =
        sqrt_bounded q.result 1129 1102 (bounded_weaken q.result (1081 + 2 * n) 1129 (omega arith) q.bounded)
        (scaled_not_negative f n rows _ (low binary64) (lower_ends f n rows o) (largest_to f n) s q.result q.given)
        (omega arith) (omega arith) in
        let z = largest_size in
        let m = mul_bounded (largest_to f n) t.result (c + 1) 1103 (c + 30) z t.bounded (omega arith)
        (omega (arith, w.to)) in
        record {
          result = mul_of (largest_to f n) t.result;
          given = bind_ok (λ d. bind (sqrt_of d) (λ t. ok (mul_of (largest_to f n) t))) q.given
              ∙ bind_ok (λ t. ok (mul_of (largest_to f n) t)) t.given;
          bounded = bounded_weaken (mul_of (largest_to f n) t.result) (c + 30 + 1) (d + 31) (omega (arith, w.to)) m;
        }
      where
        largest_size : Bounded (largest_to f n) (w.grade + 1)
        largest_size = record {
          lo_small = own s.is_float.0 s.is-finite.lo_finite s.lo_is;
          hi_small = own s.is_float.1 s.is-finite.hi_finite s.hi_is;
        }
          where
            own : {v : Float} → T (fits binary64 v) → T (finite v) → units_of binary64 v ≡ pos (suc s.size)
                → Small v (w.grade + 1)
            own {v} t f e = record {
              is_float = t;
              is-finite = f;
              at_most = le→leb (nat_abs (units_of binary64 v)) (2 ^ (w.grade + 1))
                  (le_trans (le_of_eq (ap nat_abs e)) w.at_most);
            }

-- within 2 ^ 400, where the greatest end is not between 0 and 2 ^ -1022
pub norm_bounded : (f : ℕ → Scalar) (n : ℕ) → n ≤ 24 → ((i : ℕ) → i < n → Bounded (f i) 1474)
    → Ordered f n → (definitely_greater (largest_to f n) zero_s ≡ true → Far false (largest_to f n).lo 52)
    → BoundedResult (norm_of f n) 1505
norm_bounded f n few b o h = go (way f n (rows f n 1474 few b o))
  where
    same : {x y : Res Scalar} {j k : ℕ} → y ≡ x → j ≤ k → BoundedResult x j → BoundedResult y k
    same e l w =
        record { result = w.result; given = e ∙ w.given; bounded = bounded_weaken w.result _ _ l w.bounded }

    reach : (s : Scale (largest_to f n)) → Far false (largest_to f n).lo 52 → Graded (suc s.size) 52 1474
    reach s k = graded 1422 52 (suc s.size)
        (leb→le (2 ^ 52) (suc s.size) (subst (λ (u : ℤ). T (le_z (pos (2 ^ 52)) u)) s.lo_is k.at_least))
        (subst (λ (u : ℤ). nat_abs u ≤ 2 ^ 1474) s.lo_is (leb→le _ _ (largest_bounded f n 1474 b).lo_small.at_most))

    go : Way f n → BoundedResult (norm_of f n) 1505
    go (plain q) = same q (omega arith)
        (plain_bounded f n 1474 few b o 1874 1499 (omega arith) (omega arith) (omega arith) (omega arith))
    go (scaled e s q) = same q (omega arith) (scale_bounded f n 1474 few b o s 1474 (reach s (h e)) (omega arith))

-- so where some end has at least the magnitude 2 ^ -1022
pub norm_bounded_where : (f : ℕ → Scalar) (n : ℕ) → n ≤ 24 → ((i : ℕ) → i < n → Bounded (f i) 1474) → Ordered f n
    → (i : ℕ) → i < n
    → T (leb (2 ^ 52) (nat_abs (units_of binary64 (f i).lo))) ⊎ T (leb (2 ^ 52) (nat_abs (units_of binary64 (f i).hi)))
    → BoundedResult (norm_of f n) 1505
norm_bounded_where f n few b o i h e =
    norm_bounded f n few b o (λ q. largest_far f n (bounded_rows f n 1474 b) o i 52 h e)
