-- A sum of squares holds the exact sums of squares, each end by itself: every term does, and sums keep it. So a
-- definite answer about two such sums holds of the exact ones.
use mathlib.Core.Path.{◌≡◌, refl, sym, subst}
use Prim.Native.Nat.{ℕ, zero, suc, ◌+◌, ◌*◌, ◌^◌, ◌≤◌, ◌<◌}
use native.Mathlib.Nat.{le_trans, mul-pos, lt-suc_self, le-suc}
use native.Mathlib.Omega.{arith}
use lib.Dec.{T}
use lib.Pow.{pow_pos}
use lib.IntN.{ℤ, pos, negsuc, nat_abs, ◌+ℤ◌, ◌*ℤ◌}
use lib.Signed.{lt_z}
use Rattle.interval.specs.declared.Scalar.{Scalar}
use Rattle.interval.specs.Bounded.{Bounded}
use Rattle.interval.specs.Enclosure.{Fits}
use Rattle.interval.specs.OneSided.{Within}
use Rattle.interval.specs.Scalar.{mul_of, definitely_less, definitely_greater}
use Rattle.interval.proofs.Bounded.Ends.{bounded_fits, bounded_finite, bounded_weaken, zero_bounded}
use Rattle.interval.proofs.Bounded.Product.{mul_bounded}
use Rattle.interval.proofs.Bounded.Sum.{add_bounded}
use Rattle.interval.proofs.OneSided.Add.{add_within}
use Rattle.interval.proofs.OneSided.Ends.{holds_within, zero_fits, zero_within, outward_fits}
use Rattle.interval.proofs.OneSided.Mul.{square_within}
use Rattle.interval.proofs.OrderUnits.{less_within}
use Rattle.interval.proofs.Rescaling.{holds_rescaled}
use Rattle.linear.specs.Dot.{plus_to, dot_to}
use Rattle.linear.specs.Squares.{squares_to, Rows, Chosen, ChosenEach, rescaled_all}

-- ---- the exact sum is not below 0
pub square_size : (z : ℤ) → z *ℤ z ≡ pos (nat_abs (z *ℤ z))
square_size (pos a) = refl
square_size (negsuc a) = refl

pub squares_size : (p : ℕ → ℤ) (n : ℕ) → squares_to p n ≡ pos (nat_abs (squares_to p n))
unfolding squares_to
squares_size p zero = refl
squares_size p (suc n) = sums (squares_size p n) (square_size (p n))
  where
    sums : {z w : ℤ} {a b : ℕ} → z ≡ pos a → w ≡ pos b → z +ℤ w ≡ pos (nat_abs (z +ℤ w))
    sums e d = rw (e, d)

-- ---- enclosure
pub dot_fits : (f g : ℕ → Scalar) (n : ℕ) → Fits (dot_to f g n)
unfolding plus_to
dot_fits f g zero = zero_fits
dot_fits f g (suc n) = outward_fits _ _

-- of any scalars, with ends that may be infinite
pub squares_within : (f : ℕ → Scalar) (n : ℕ) → ((i : ℕ) → i < n → Fits (f i)) → (p : ℕ → ℤ) (c : ℕ) → 0 < c
    → ((i : ℕ) → i < n → Within (f i) (p i) c) → Within (dot_to f f n) (squares_to p n) (c * c)
unfolding plus_to squares_to
squares_within f zero t p c C a = zero_within (c * c)
squares_within f (suc n) t p c C a =
    let h : n < suc n = lt-suc_self n in
    add_within (dot_to f f n) (mul_of (f n) (f n)) (squares_to p n) (p n *ℤ p n) (c * c) (dot_fits f f n)
    (outward_fits _ _)
    (squares_within f n (λ i l. t i (le_trans l (le-suc n))) p c C (λ i l. a i (le_trans l (le-suc n))))
    (square_within (f n) (p n) c C (t n h) (a n h))

pub dot_within : (f : ℕ → Scalar) (n : ℕ) → Rows f n → (p : ℕ → ℤ) (k : ℕ) → Chosen f n p k
    → Within (dot_to f f n) (squares_to p n) (2 ^ k * 2 ^ k)
dot_within f n r p k a =
    squares_within f n (λ i h. (r i h).0) p (2 ^ k) (pow_pos k)
    (λ i h. holds_within (f i) (p i) (2 ^ k) (r i h).1 (a i h).inside)

-- ---- a definite answer about two sums, of n and of m scalars
pub dot_less : (f g : ℕ → Scalar) (n m : ℕ) → Rows f n → Rows g m → T (definitely_less (dot_to g g m) (dot_to f f n))
    → (p q : ℕ → ℤ) (k : ℕ) → Chosen f n p k → Chosen g m q k → T (lt_z (squares_to q m) (squares_to p n))
dot_less f g n m rf rg h p q k a b =
    less_within (dot_to g g m) (dot_to f f n) (squares_to q m) (squares_to p n) (2 ^ k * 2 ^ k) (mul-pos (pow_pos k)
    (pow_pos k)) (dot_fits g g m) (dot_fits f f n) (dot_within g m rg q k b) (dot_within f n rf p k a) h

pub dot_greater : (f g : ℕ → Scalar) (n m : ℕ) → Rows f n → Rows g m
    → T (definitely_greater (dot_to f f n) (dot_to g g m))
    → (p q : ℕ → ℤ) (k : ℕ) → Chosen f n p k → Chosen g m q k → T (lt_z (squares_to q m) (squares_to p n))
dot_greater f g n m rf rg h = dot_less f g n m rf rg h

-- ---- choices with a power for each
pub chosen_rescaled : (f : ℕ → Scalar) (n : ℕ) (p : ℕ → ℤ) (j : ℕ → ℕ) (c : ℕ)
    → ChosenEach f n p j c → Chosen f n (rescaled_all p j c) c
chosen_rescaled f n p j c a i h =
    let (l, x) = a i h in
    record { is-finite = x.is-finite; inside = holds_rescaled (f i) (p i) (j i) c l x.inside }

-- ---- magnitude
pub bounded_rows : (f : ℕ → Scalar) (n a : ℕ) → ((i : ℕ) → i < n → Bounded (f i) a) → Rows f n
bounded_rows f n a b i h = (bounded_fits (f i) a (b i h), bounded_finite (f i) a (b i h))

-- a product of 2 ^ a and 2 ^ b units is at most 2 ^ (k + 1), and each sum doubles twice at most
pub dots_bounded : (f g : ℕ → Scalar) (a b k n : ℕ) → a + b ≤ k + 1074 → k + 1 + 2 * n < 2098
    → ((i : ℕ) → i < n → Bounded (f i) a) → ((i : ℕ) → i < n → Bounded (g i) b) → Bounded (dot_to f g n) (k + 1 + 2 * n)
unfolding plus_to
dots_bounded f g a b k zero s K hf hg = zero_bounded (k + 1 + 2 * 0)
dots_bounded f g a b k (suc n) s K hf hg =
    let h : n < suc n = lt-suc_self n in
    let e : k + 1 + 2 * suc n ≡ k + 1 + 2 * n + 2 = omega arith in
    let w = dots_bounded f g a b k n s (omega arith) (λ i l. hf i (le_trans l (le-suc n)))
    (λ i l. hg i (le_trans l (le-suc n))) in
    let m = mul_bounded (f n) (g n) a b k (hf n h) (hg n h) s (omega arith) in
    subst (Bounded (dot_to f g (suc n))) (sym e) (add_bounded (dot_to f g n) (mul_of (f n) (g n)) (k + 1 + 2 * n) w
    (bounded_weaken (mul_of (f n) (g n)) (k + 1) (k + 1 + 2 * n) (omega arith) m) (omega arith))

-- of at most 24 products of scalars within 2 ^ 400
pub dot_bounded : (f g : ℕ → Scalar) (n : ℕ) → n ≤ 24 → ((i : ℕ) → i < n → Bounded (f i) 1474)
    → ((i : ℕ) → i < n → Bounded (g i) 1474) → Bounded (dot_to f g n) 1923
dot_bounded f g n few hf hg = bounded_weaken (dot_to f g n) (1874 + 1 + 2 * n) 1923 (omega arith)
    (dots_bounded f g 1474 1474 1874 n (omega arith) (omega arith) hf hg)
