-- The laws of exact sums, from those of linear: a sum of squares, the change of one and a norm hold the exact ones,
-- each end by itself.
use Prim.Native.Nat.{ℕ, zero, suc, ◌+◌, ◌*◌, ◌^◌, ◌<◌}
use mathlib.Core.Path.{◌≡◌, refl, sym, ap, ◌∙◌, subst}
use native.Mathlib.Nat.{le_trans, mul-pos, lt-suc_self, le-suc, mul_comm, add-mul}
use native.Mathlib.Omega.{arith}
use lib.Dec.{T}
use lib.Pow.{pow_pos}
use lib.IntN.{ℤ, pos, negsuc, neg_ℤ, ◌+ℤ◌, ◌-ℤ◌, ◌*ℤ◌, +ℤ_idr}
use lib.Signed.{lt_z}
use Rattle.interval.specs.declared.Scalar.{Scalar}
use Rattle.interval.specs.Enclosure.{Fits}
use Rattle.interval.specs.OneSided.{Within}
use Rattle.interval.specs.Result.{ok}
use Rattle.interval.specs.Scalar.{zero_s, add_of, sub_of, mul_of, definitely_less}
use Rattle.interval.proofs.Corners.{P-mul, N-mul}
use Rattle.interval.proofs.Integers.{P, N, lt_of_parts, parts_of_lt, add_parts}
use Rattle.interval.proofs.OneSided.Add.{add_within, sub_within, sum_stepped, sub_stepped}
use Rattle.interval.proofs.OneSided.Ends.{holds_within, zero_fits, zero_within, outward_fits}
use Rattle.interval.proofs.OneSided.Mul.{mul_within}
use Rattle.interval.proofs.OrderUnits.{less_within}
use Rattle.linear.specs.Dot.{plus_to, dot_to}
use Rattle.linear.specs.Squares as squares
use Rattle.linear.specs.Squares.{squares_to, Chosen}
use Rattle.linear.proofs.NormLaws.{norm_less, norm_fell}
use Rattle.linear.proofs.SquareLaws.{dot_fits, squares_within}
use Rattle.run.specs.Rows.{Rows, value_at}
use Rattle.run.specs.Residuals.{linearized_at, squared_of, sum_squared, violation_of}
use Rattle.run.specs.Judgement.{sum_change, rises}
use Rattle.run.proofs.demand3.ExactLaws.{FiniteRows, FallsTogether, falls_each, ExactLaws}

-- ---- f, with zero added to each value

plus_zero : (e : Rows) → FiniteRows e → (p : ℕ → ℤ) (k : ℕ) → Chosen (value_at e) e.count p k → (i : ℕ) → i < e.count
    → Within (linearized_at e e.list 0 i) (p i) (2 ^ k)
unfolding linearized_at plus_to
plus_zero e r p k a i h =
    subst (λ (z : ℤ). Within (add_of (value_at e i) zero_s) z (2 ^ k)) (+ℤ_idr (p i))
    (add_within (value_at e i) zero_s (p i) (pos 0) (2 ^ k) (r i h).0 zero_fits
    (holds_within (value_at e i) (p i) (2 ^ k) (r i h).1 (a i h).inside) (zero_within (2 ^ k)))

f_within : (e : Rows) → FiniteRows e → (p : ℕ → ℤ) (k : ℕ) → Chosen (value_at e) e.count p k
    → Within (sum_squared e) (squares_to p e.count) (2 ^ k * 2 ^ k)
unfolding squared_of linearized_at plus_to
f_within e r p k a =
    squares_within (linearized_at e e.list 0) e.count (λ i h. outward_fits _ _) p (2 ^ k) (pow_pos k)
    (plus_zero e r p k a)

f_fits : (e : Rows) → Fits (sum_squared e)
unfolding squared_of
f_fits e = dot_fits (linearized_at e e.list 0) (linearized_at e e.list 0) e.count

sum_less : (e e' : Rows) → FiniteRows e → FiniteRows e' → T (definitely_less (sum_squared e') (sum_squared e))
    → FallsTogether e e'
sum_less e e' r r' h p q k a b =
    less_within (sum_squared e') (sum_squared e) (squares_to q e'.count) (squares_to p e.count) (2 ^ k * 2 ^ k)
    (mul-pos (pow_pos k) (pow_pos k)) (f_fits e') (f_fits e) (f_within e' r' q k b) (f_within e r p k a) h

-- ---- the violation

violation_less : (e e' : Rows) → FiniteRows e → FiniteRows e' → (v v' : Scalar) → violation_of e ≡ ok v
    → violation_of e' ≡ ok v' → T (definitely_less v' v) → FallsTogether e e'
unfolding violation_of
violation_less e e' r r' v v' x x' h = norm_less (value_at e) (value_at e') e.count e'.count r r' v v' x x' h

violation_falls : (e e' : Rows) → FiniteRows e → FiniteRows e' → (v v' : Scalar) → violation_of e ≡ ok v
    → violation_of e' ≡ ok v' → T (rises (sub_of v v')) → FallsTogether e e'
unfolding violation_of
violation_falls e e' r r' v v' x x' h = norm_fell (value_at e) (value_at e') e.count e'.count r r' v v' x x' h

-- ---- the sum change: (a - b)(a + b) is a a - b b

squares_parts : (s s' t t' x x' y y' : ℕ) → s + x' + y ≡ x + y' + s' → t + x' + y' ≡ x + y + t'
    → s * t + s' * t' + (y * y + y' * y') + (x * x' + x' * x) ≡ s * t' + s' * t + (y * y' + y' * y) + (x * x + x' * x')
squares_parts s s' t t' x x' y y' e g =
    let three : (a b c k : ℕ) → (a + b + c) * k ≡ a * k + b * k + c * k = λ a b c k. add-mul (a + b) c k
    ∙ ap (λ (z : ℕ). z + c * k) (add-mul a b k) in
    let E : (k : ℕ) → s * k + x' * k + y * k ≡ x * k + y' * k + s' * k = λ k. sym (three s x' y k)
    ∙ ap (λ (z : ℕ). z * k) e ∙ three x y' s' k in
    let G : (k : ℕ) → t * k + x' * k + y' * k ≡ x * k + y * k + t' * k = λ k. sym (three t x' y' k)
    ∙ ap (λ (z : ℕ). z * k) g ∙ three x y t' k in
    omega (
      arith,
      E t,
      E t',
      G x,
      G x',
      G y,
      G y',
      mul_comm t x,
      mul_comm t x',
      mul_comm t y,
      mul_comm t y',
      mul_comm t' x,
      mul_comm t' x',
      mul_comm t' y,
      mul_comm t' y',
      mul_comm x x',
      mul_comm x y,
      mul_comm x y',
      mul_comm x' y,
      mul_comm x' y',
      mul_comm y y',
    )

neg_parts : (b : ℤ) → (P (neg_ℤ b) ≡ N b) × (N (neg_ℤ b) ≡ P b)
neg_parts (pos zero) = (refl, refl)
neg_parts (pos (suc n)) = (refl, refl)
neg_parts (negsuc n) = (refl, refl)

one_change : (a b : ℤ)
    → P ((a -ℤ b) *ℤ (a +ℤ b)) + P (b *ℤ b) + N (a *ℤ a) ≡ N ((a -ℤ b) *ℤ (a +ℤ b)) + N (b *ℤ b) + P (a *ℤ a)
one_change a b =
    let w = neg_parts b in
    let e : P (a -ℤ b) + N a + P b ≡ P a + N b + N (a -ℤ b) = omega (arith, add_parts a (neg_ℤ b)) in
    let g : P (a +ℤ b) + N a + N b ≡ P a + P b + N (a +ℤ b) = omega (arith, add_parts a b) in
    omega (
      arith,
      squares_parts (P (a -ℤ b)) (N (a -ℤ b)) (P (a +ℤ b)) (N (a +ℤ b)) (P a) (N a) (P b) (N b) e g,
      P-mul (a -ℤ b) (a +ℤ b),
      N-mul (a -ℤ b) (a +ℤ b),
      P-mul b b,
      N-mul b b,
      P-mul a a,
      N-mul a a,
    )

-- the exact change
change_to : (ℕ → ℤ) → (ℕ → ℤ) → ℕ → ℤ
change_to p q zero = pos 0
change_to p q (suc n) = change_to p q n +ℤ (p n -ℤ q n) *ℤ (p n +ℤ q n)

change_is : (p q : ℕ → ℤ) (n : ℕ)
    → P (change_to p q n) + P (squares_to q n) + N (squares_to p n)
    ≡ N (change_to p q n) + N (squares_to q n) + P (squares_to p n)
unfolding squares_to change_to
change_is p q zero = refl
change_is p q (suc n) =
    omega (
      arith,
      change_is p q n,
      one_change (p n) (q n),
      add_parts (change_to p q n) ((p n -ℤ q n) *ℤ (p n +ℤ q n)),
      add_parts (squares_to q n) (q n *ℤ q n),
      add_parts (squares_to p n) (p n *ℤ p n),
    )

module _ (f g : ℕ → Scalar) (p q : ℕ → ℤ) (k : ℕ) where
  abbrev change : ℕ → Scalar
  change n = dot_to (λ i. sub_of (f i) (g i)) (λ i. add_of (f i) (g i)) n

  change_within : (n : ℕ) → squares.Rows f n → squares.Rows g n → Chosen f n p k → Chosen g n q k
      → Within (change n) (change_to p q n) (2 ^ k * 2 ^ k)
  unfolding plus_to change_to
  change_within zero rf rg a b = zero_within (2 ^ k * 2 ^ k)
  change_within (suc n) rf rg a b =
      let c = 2 ^ k in
      let C = pow_pos k in
      let h : n < suc n = lt-suc_self n in
      let x = f n in
      let y = g n in
      let wx = holds_within x (p n) c (rf n h).1 (a n h).inside in
      let wy = holds_within y (q n) c (rg n h).1 (b n h).inside in
      let one : Within (mul_of (sub_of x y) (add_of x y)) ((p n -ℤ q n) *ℤ (p n +ℤ q n)) (c * c) =
      mul_within (sub_of x y) (add_of x y) (p n -ℤ q n) (p n +ℤ q n) c c C C (outward_fits _ _) (outward_fits _ _)
      (record {
        left = λ u v. absurd (sub_stepped x y (p n) (q n) c C (rf n h).0 (rg n h).0 wx wy u v);
        right = λ u v. absurd (sum_stepped x y (p n) (q n) c C (rf n h).0 (rg n h).0 wx wy u v);
      })
      (sub_within x y (p n) (q n) c (rf n h).0 (rg n h).0 wx wy)
      (add_within x y (p n) (q n) c (rf n h).0 (rg n h).0 wx wy) in
      add_within (change n) (mul_of (sub_of x y) (add_of x y)) (change_to p q n) ((p n -ℤ q n) *ℤ (p n +ℤ q n)) (c * c)
      (dot_fits _ _ n) (outward_fits _ _)
      (change_within n (λ i l. rf i (le_trans l (le-suc n))) (λ i l. rg i (le_trans l (le-suc n)))
      (λ i l. a i (le_trans l (le-suc n))) (λ i l. b i (le_trans l (le-suc n)))) one

  change_less : (n : ℕ) → squares.Rows f n → squares.Rows g n → Chosen f n p k → Chosen g n q k → T (rises (change n))
      → T (lt_z (squares_to q n) (squares_to p n))
  change_less n rf rg a b h =
      let c = 2 ^ k * 2 ^ k in
      let d = change_to p q n in
      let up = less_within zero_s (change n) (pos 0) d c (mul-pos (pow_pos k) (pow_pos k)) zero_fits (dot_fits _ _ n)
      (zero_within c) (change_within n rf rg a b) h in
      lt_of_parts (squares_to q n) (squares_to p n) (omega (arith, change_is p q n, parts_of_lt (pos 0) d up))

change_falls : (e e' : Rows) → e.count ≡ e'.count → FiniteRows e → FiniteRows e' → T (rises (sum_change e e'))
    → FallsTogether e e'
unfolding sum_change
change_falls e e' same r r' h p q k a b =
    subst (λ (m : ℕ). T (lt_z (squares_to q m) (squares_to p e.count))) same
    (change_less (value_at e) (value_at e') p q k e.count r (subst (squares.Rows (value_at e')) (sym same) r') a
    (subst (λ (m : ℕ). Chosen (value_at e') m q k) (sym same) b) h)

pub exact_laws : ExactLaws
exact_laws = record {
  change_falls = λ e e' same r r' h. falls_each e e' (change_falls e e' same r r' h);
  sum_less = λ e e' r r' h. falls_each e e' (sum_less e e' r r' h);
  violation_falls = λ e e' r r' v v' x x' h. falls_each e e' (violation_falls e e' r r' v v' x x' h);
  violation_less = λ e e' r r' v v' x x' h. falls_each e e' (violation_less e e' r r' v v' x x' h);
}
