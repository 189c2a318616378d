-- A factor is that of the lower triangle alone: matrices that agree there have the same factor, marks and refusal. An
-- entry is given by the entries in the columns before it, so the rows agree column by column.
use Prim.Native.Nat.{ℕ, zero, suc, ◌+◌, ◌*◌, ◌/◌, ◌%◌, ◌≤◌, ◌<◌}
use mathlib.Core.Path.{◌≡◌, refl, sym, ◌∙◌}
use mathlib.Core.List.{List}
use native.Mathlib.Nat.{le_refl}
use native.Mathlib.Omega.{arith}
use lib.Arith.{digits_lt, digits_div, digits_mod}
use lib.Ieee.{Float}
use Rattle.interval.specs.declared.Scalar.{Scalar}
use Rattle.linear.specs.Flat.{list_to}
use Rattle.linear.specs.Dot.{minus_to}
use Rattle.linear.specs.Cholesky.{row_to, pivot_at, mark_at, factor_at, refused_to, entry, marks_to, cholesky_of}
use Rattle.linear.specs.Solved.{gram_of, gram_at, LowerRows}
use Rattle.linear.proofs.Agree.{minus_to-ext, list_to-ext}
use Rattle.linear.proofs.Cells.{place_row}
use Rattle.linear.proofs.Lists.{at-list_to}

-- the first n rows agree up to the diagonal
abbrev pub SameBelow : (ℕ → ℕ → Scalar) → (ℕ → ℕ → Scalar) → ℕ → Type 0
SameBelow a b n = (i j : ℕ) → i < n → j ≤ i → a i j ≡ b i j

module _ (a b : ℕ → ℕ → Scalar) (n : ℕ) (same : SameBelow a b n) where
  -- what is left of an entry, where the entries before it agree
  left_same : (j i : ℕ) → j ≤ i → i < n → ((k : ℕ) → row_to a j i k ≡ row_to b j i k)
      → ((k : ℕ) → row_to a j j k ≡ row_to b j j k) → minus_to (row_to a j i) (row_to a j j) (a i j) j ≡ minus_to
      (row_to b j i) (row_to b j j) (b i j) j
  left_same j i h l p q = rw (same i j l h)
      (minus_to-ext (row_to a j i) (row_to b j i) (row_to a j j) (row_to b j j) (b i j) j (λ t _. p t) (λ t _. q t))

  row_to-same : (j i : ℕ) → j ≤ i → i < n → (k : ℕ) → row_to a j i k ≡ row_to b j i k
  unfolding row_to
  row_to-same zero i h l k = refl
  row_to-same (suc j) i h l k =
      let before : j ≤ i = omega arith in
      let above : j < n = omega arith in
      let row : (t : ℕ) → row_to a j i t ≡ row_to b j i t = row_to-same j i before l in
      let top : (t : ℕ) → row_to a j j t ≡ row_to b j j t = row_to-same j j (le_refl j) above in
      rw (left_same j j (le_refl j) above top top, left_same j i before l row top, row k)

  pivot_same : (i : ℕ) → i < n → pivot_at a i ≡ pivot_at b i
  pivot_same i l =
      let row : (t : ℕ) → row_to a i i t ≡ row_to b i i t = row_to-same i i (le_refl i) l in
      rw (left_same i i (le_refl i) l row row)

  mark_same : (i : ℕ) → i < n → mark_at a i ≡ mark_at b i
  unfolding mark_at
  mark_same i l = rw (pivot_same i l)

  factor_same : (i j : ℕ) → i < n → factor_at a i j ≡ factor_at b i j
  unfolding factor_at
  factor_same i j l = rw (mark_same i l, row_to-same i i (le_refl i) l j, pivot_same i l)

  refused_same : (k : ℕ) → k ≤ n → refused_to a k ≡ refused_to b k
  unfolding refused_to
  refused_same zero h = refl
  refused_same (suc k) h = rw (refused_same k (omega arith), pivot_same k h)

  marks_same : (k : ℕ) → k ≤ n → marks_to (mark_at a) k ≡ marks_to (mark_at b) k
  unfolding marks_to
  marks_same zero h = refl
  marks_same (suc k) h = rw (marks_same k (omega arith), mark_same k h)

pub cholesky_lower : (n : ℕ) (a b : List Float) → SameBelow (entry n a) (entry n b) n
    → cholesky_of n a ≡ cholesky_of n b
unfolding cholesky_of
cholesky_lower n a b same =
    rw (
      refused_same (entry n a) (entry n b) n same n (le_refl n),
      marks_same (entry n a) (entry n b) n same n (le_refl n),
      list_to-ext
          (λ p. factor_at (entry n a) (p / n) (p % n))
          (λ p. factor_at (entry n b) (p / n) (p % n))
          (n * n)
          (λ p h. factor_same (entry n a) (entry n b) n same (p / n) (p % n) (place_row h)),
    )

-- the same of matrices that are written entry by entry
abbrev pub matrix_of : ℕ → (ℕ → ℕ → Scalar) → List Float
matrix_of n f = list_to (λ p. f (p / n) (p % n)) (n * n)

entry_of : (n : ℕ) (f : ℕ → ℕ → Scalar) (i j : ℕ) → i < n → j < n → entry n (matrix_of n f) i j ≡ f i j
entry_of n f i j h k =
    let inside : i * n + j < n * n = digits_lt {q = i} {m = n} {r = j} {c = n} h k in
    at-list_to (λ p. f (p / n) (p % n)) (n * n) (i * n + j) inside ∙ rw (digits_div i k, digits_mod i k)

module _ (n : ℕ) (f g : ℕ → ℕ → Scalar) (same : SameBelow f g n) where
  entries_same : SameBelow (entry n (matrix_of n f)) (entry n (matrix_of n g)) n
  entries_same i j h l =
      let k : j < n = omega arith in
      entry_of n f i j h k ∙ same i j h l ∙ sym (entry_of n g i j h k)

  pub cholesky_entries : cholesky_of n (matrix_of n f) ≡ cholesky_of n (matrix_of n g)
  cholesky_entries = cholesky_lower n (matrix_of n f) (matrix_of n g) entries_same

-- products that fill the lower triangle have the factor of all products
pub cholesky_gram : (m n : ℕ) (jc g : List Float) → LowerRows (gram_at n jc) m m g → cholesky_of m g ≡ cholesky_of m
    (gram_of m n jc)
unfolding gram_of
cholesky_gram m n jc g rows =
    cholesky_lower m g (matrix_of m (gram_at n jc))
    (λ i j h l. let k : j < m = omega arith in rows i j h l ∙ sym (entry_of m (gram_at n jc) i j h k))
