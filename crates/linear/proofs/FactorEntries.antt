-- The entries and marks of specs/Cholesky, case by case: a column more of a row, and a row by its pivot.
use Prim.Native.Nat.{ℕ, zero, suc, ◌≤◌, ◌<◌}
use mathlib.Core.Bool.{Bool, true, false}
use mathlib.Core.Logic.{◌≢◌, ◌⊎◌, inl, inr}
use mathlib.Core.Path.{◌≡◌, refl, sym, ap}
use native.Mathlib.Omega.{arith}
use borrow.Author.Tests.{lt-ltb, le-ltb, eq-eqb, ne_eqb, ltb-true, ltb-false, eqb-true, eqb-false}
use lib.Arith.{lt_of_le-ne}
use lib.Dec.{eqb, ltb}
use Rattle.interval.specs.declared.Scalar.{Scalar}
use Rattle.interval.specs.Result.{Res}
use Rattle.interval.specs.Scalar.{zero_s}
use Rattle.linear.specs.Dot.{minus_to}
use Rattle.linear.specs.Cholesky.{Pivot, under, row_to, pivot_at, is_left_out, is_refused, diagonal, mark_at, factor_at}
use Rattle.linear.specs.Cholesky.{refused_to}

tested : {P : Type 0} (b : Bool) → (b ≡ true → P) → (b ≡ false → P) → P
tested true h g = h refl
tested false h g = g refl

pub same_or_not : (k j : ℕ) → (k ≡ j) ⊎ (k ≢ j)
same_or_not k j = tested (eqb k j) (λ e. inl (eqb-true k j e)) (λ e. inr (eqb-false k j e))

-- what is left of the entry of row i and column j once the columns before are taken off
abbrev pub rest : (ℕ → ℕ → Scalar) → ℕ → ℕ → Scalar
rest a i j = minus_to (row_to a j i) (row_to a j j) (a i j) j

module _ (a : ℕ → ℕ → Scalar) where
  -- ---- a row, column by column

  pub row_beyond : (j i k : ℕ) → j ≤ k → row_to a j i k ≡ zero_s
  unfolding row_to
  row_beyond zero i k h = refl
  row_beyond (suc j) i k h = rw (ne_eqb k j (λ e. omega arith)) (row_beyond j i k (omega arith))

  pub row_other : (j i k : ℕ) → k ≢ j → row_to a (suc j) i k ≡ row_to a j i k
  unfolding row_to
  row_other j i k h = rw (ne_eqb k j h)

  pub row_new : (j i : ℕ) {p : Res Pivot} → pivot_at a j ≡ p → row_to a (suc j) i j ≡ under p (rest a i j)
  unfolding row_to
  row_new j i e = rw (eq-eqb j j refl) (ap (λ p. under p (rest a i j)) e)

  -- ---- a row by its pivot

  pub mark_is : (i : ℕ) {p : Res Pivot} → pivot_at a i ≡ p → mark_at a i ≡ is_left_out p
  unfolding mark_at
  mark_is i e = ap is_left_out e

  pub factor_out : (i k : ℕ) → mark_at a i ≡ true → factor_at a i k ≡ zero_s
  unfolding factor_at
  factor_out i k e = rw e

  module _ (i : ℕ) (e : mark_at a i ≡ false) where
    pub factor_diagonal : {p : Res Pivot} → pivot_at a i ≡ p → factor_at a i i ≡ diagonal p
    unfolding factor_at
    factor_diagonal q = rw (e, le-ltb i i (omega arith), eq-eqb i i refl) (ap diagonal q)

    pub factor_below : (k : ℕ) → k < i → factor_at a i k ≡ row_to a i i k
    unfolding factor_at
    factor_below k h = rw (e, lt-ltb k i h)

    factor_above : (k : ℕ) → i < k → factor_at a i k ≡ row_to a i i k
    unfolding factor_at
    factor_above k h =
        rw (e, le-ltb k i (omega arith), ne_eqb i k (λ q. omega arith)) (sym (row_beyond i i k (omega arith)))

    pub factor_off : (k : ℕ) → k ≢ i → factor_at a i k ≡ row_to a i i k
    factor_off k h = tested (ltb k i) (λ b. factor_below k (ltb-true k i b))
        (λ b. factor_above k (lt_of_le-ne (ltb-false k i b) (λ q. h (sym q))))

  pub none_refused : (i : ℕ) → ((r : ℕ) → r < i → is_refused (pivot_at a r) ≡ false) → refused_to a i ≡ false
  unfolding refused_to
  none_refused zero h = refl
  none_refused (suc i) h = rw (none_refused i (λ r l. h r (omega arith)), h i (omega arith))
