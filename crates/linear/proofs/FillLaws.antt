-- What a loop that fills places of a list leaves: one place more, and what the places ahead hold. A store at a place
-- that is cut off at the list's end changes nothing, as beyond it.
use Prim.Native.Nat.{ℕ, zero, suc, ◌+◌, ◌*◌, ◌<◌, ◌≤◌}
use mathlib.Core.Logic.{⊎_elim, ◌≢◌}
use mathlib.Core.Path.{◌≡◌, refl, sym, ap, ◌∙◌}
use mathlib.Core.List.{List}
use native.Mathlib.Nat.{le_refl, lt-suc_self}
use native.Mathlib.Numerals.{add-one}
use native.Mathlib.Omega.{arith}
use borrow.Author.Tests.{le-ltb}
use lib.Ieee.{Float}
use lib.ListN.{length}
use Rattle.interval.specs.declared.Scalar.{Scalar}
use Rattle.interval.specs.Scalar.{sub_of, mul_of}
use Rattle.linear.specs.Flat.{at, put, fill_to}
use Rattle.linear.specs.Choose.{choose_of}
use Rattle.linear.specs.Scaled.{minus_scaled}
use Rattle.linear.proofs.FlatLaws.{at_put_other, put_outside}
use Rattle.linear.proofs.FactorEntries.{same_or_not}
use Rattle.linear.proofs.Walks.{Cut}

module _ (xs : List Float) (base : ℕ) (f : ℕ → Scalar) where
  -- one turn of a loop that stores f 0, f 1, ..
  pub fill_turn : {s : List Float} {v : Scalar} (i : ℕ) → s ≡ fill_to xs base f i → v ≡ f i
      → put s (base + i) v ≡ fill_to xs base f (i + 1)
  unfolding fill_to
  fill_turn i es ev = rw (es, ev, add-one)

  -- a place that is not among those filled
  pub at_fill_other : (k i : ℕ) → ((j : ℕ) → j < k → i ≢ base + j) → at (fill_to xs base f k) i ≡ at xs i
  unfolding fill_to
  at_fill_other zero i h = refl
  at_fill_other (suc k) i h = at_put_other (fill_to xs base f k) (base + k) i (f k) (h k (lt-suc_self k))
      ∙ at_fill_other k i (λ j l. h j (omega arith))

  -- one that is still to be filled
  pub at_fill_ahead : (k j : ℕ) → k ≤ j → at (fill_to xs base f k) (base + j) ≡ at xs (base + j)
  at_fill_ahead k j h = at_fill_other k (base + j) (λ i l e. omega arith)

-- one place more of a run less a multiple of another
pub scaled_more : (v₀ v w : List Float) (v0 w0 p : ℕ) (a : Scalar) {x y h : Scalar} {t : List Float}
    → v ≡ minus_scaled v₀ v0 a w w0 p → x ≡ at v (v0 + p) → y ≡ at w (w0 + p) → h ≡ choose_of (sub_of x (mul_of a y))
    → t ≡ put v (v0 + p) h
    → t ≡ minus_scaled v₀ v0 a w w0 (p + 1)
unfolding minus_scaled
scaled_more v₀ v w v0 w0 p a ev ex ey eh et =
    let f : ℕ → Scalar = λ j. choose_of (sub_of (at v₀ (v0 + j)) (mul_of a (at w (w0 + j)))) in
    let x₀ = ex ∙ ap (λ l. at l (v0 + p)) ev ∙ at_fill_ahead v₀ v0 f p p (le_refl p) in
    et ∙ fill_turn v₀ v0 f p ev (rw (eh, ey, x₀))

beyond : (xs : List Float) (i : ℕ) (v : Scalar) → length xs ≤ i → put xs i v ≡ xs
beyond xs i v h = put_outside xs i v (le-ltb (2 * i + 1) (length xs) (omega arith))

pub put_cut : (xs : List Float) {i p : ℕ} (v : Scalar) → Cut (length xs) i p → put xs i v ≡ put xs p v
put_cut xs {i} {p} v e =
    ⊎_elim
    (λ q. ap (λ j. put xs j v) q)
    (λ q. beyond xs i v (omega arith) ∙ sym (beyond xs p v (omega arith)))
    (same_or_not i p)
