-- Rows of a matrix that are filled column by column: the rows above are in place, and those that are being filled up
-- to a column.
use Prim.Native.Nat.{ℕ, ◌+◌, ◌*◌, ◌≤◌, ◌<◌}
use mathlib.Core.Logic.{⊎_elim}
use mathlib.Core.Path.{◌≡◌, refl, ◌∙◌}
use mathlib.Core.List.{List}
use native.Mathlib.Nat.{suc-mul}
use native.Mathlib.Numerals.{add-one}
use native.Mathlib.Omega.{arith}
use lib.Ieee.{Float}
use lib.ListN.{length}
use Rattle.interval.specs.declared.Scalar.{Scalar}
use Rattle.linear.specs.Dot.{dot_to}
use Rattle.linear.specs.Flat.{at, put, along}
use Rattle.linear.specs.Solved.{gram_at}
use Rattle.linear.proofs.Cells.{cell_inside, cell_row, cell_column}
use Rattle.linear.proofs.FactorEntries.{same_or_not}
use Rattle.linear.proofs.FlatLaws.{length_put, at_put_same, at_put_other}

module _ (f : ℕ → ℕ → Scalar) (m : ℕ) where
  -- the entry of row r and column k after a store of that of row i and column j
  put_cell : (i j : ℕ) (g : List Float) {v : Scalar} → i < m → j < m → length g ≡ 2 * (m * m) → v ≡ f i j → (r k : ℕ)
      → r < m → k < m
      → ((r ≡ i → k ≡ j → ⊥) → at g (r * m + k) ≡ f r k) → at (put g (i * m + j) v) (r * m + k) ≡ f r k
  put_cell i j g {v} hi hj size ev r k hr hk other =
      ⊎_elim
      (λ e.
      let p : r ≡ i = cell_row r i hk hj e in
      let q : k ≡ j = cell_column r i hk hj e in
      rw (p, q) (at_put_same g (i * m + j) v (cell_inside hi hj size) ∙ ev))
      (λ n. at_put_other g (i * m + j) (r * m + k) v n ∙ other (λ p q. n (rw (p, q) refl)))
      (same_or_not (r * m + k) (i * m + j))

  -- rows from i on below c are filled before column t, and those above i up to the diagonal
  abbrev pub Filled : ℕ → ℕ → ℕ → List Float → Type 0
  Filled i c t g = (r k : ℕ) → r < c → k ≤ r → (i ≤ r → k < t) → at g (r * m + k) ≡ f r k

  before : (k t : ℕ) → k < t + 1 → (k ≡ t → ⊥) → k < t
  before k t h n = ⊎_elim (λ e. absurd (n e)) (λ d. omega arith) (same_or_not k t)

  module _ (i t : ℕ) (g : List Float) {v : Scalar} (ht : t < m) (size : length g ≡ 2 * (m * m)) (ev : v ≡ f i t) where
    pub filled_one : i < m → Filled i (i + 1) t g → Filled i (i + 1) (t + 1) (put g (i * m + t) v)
    filled_one hi fill r k hr hk h =
        let rm : r < m = omega arith in
        let km : k < m = omega arith in
        put_cell i t g hi ht size ev r k rm km
        (λ n. fill r k hr hk (λ l. before k t (h l) (let e : r ≡ i = omega arith in n e)))

    pub filled_two : {w : Scalar} → i + 1 < m → w ≡ f (i + 1) t → Filled i (i + 2) t g
        → Filled i (i + 2) (t + 1) (put (put g (i * m + t) v) (i * m + m + t) w)
    filled_two {w} hi ew fill r k hr hk h =
        let im : i < m = omega arith in
        let rm : r < m = omega arith in
        let km : k < m = omega arith in
        let e : (i + 1) * m ≡ i * m + m = rw (add-one, suc-mul) in
        let above : (r ≡ i + 1 → k ≡ t → ⊥) → at (put g (i * m + t) v) (r * m + k) ≡ f r k =
        λ n. put_cell i t g im ht size ev r k rm km (λ o. fill r k hr hk (λ l. before k t (h l) (λ q.
        ⊎_elim (λ p. o p q) (λ d. let p : r ≡ i + 1 = omega arith in n p q) (same_or_not r i)))) in
        rw e at (put_cell (i + 1) t (put g (i * m + t) v) hi ht (length_put g (i * m + t) v ∙ size) ew r k rm km above)

-- the second of two rows
pub second_row : (n : ℕ) (jc : List Float) (i t : ℕ) {w : Scalar} → w ≡ dot_to (along jc (i * n + n) 1)
    (along jc (t * n) 1) n → w ≡ gram_at n jc (i + 1) t
second_row n jc i t e = let s : (i + 1) * n ≡ i * n + n = rw (add-one, suc-mul) in rw s e
