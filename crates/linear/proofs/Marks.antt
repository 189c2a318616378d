-- The list of the first marks of an index function: its length, what stands in it, and that no other list has the same.
use Prim.Native.Nat.{ℕ, zero, suc, ◌<◌}
use mathlib.Core.Bool.{Bool, false}
use mathlib.Core.Logic.{⊎_elim}
use mathlib.Core.Path.{◌≡◌, refl, sym, ◌∙◌}
use mathlib.Core.List.{List, []}
use native.Mathlib.Nat.{not-suc-le-zero, le_of_suc-le-suc, eq-or-lt_of_le}
use native.Mathlib.Omega.{arith}
use lib.ListN.{length, get_or, length-append, get_or-append}
use lib.Seq.{get_or_at, ext_get_or}
use Rattle.linear.specs.Cholesky.{marks_to}

module _ (f : ℕ → Bool) where
  length-marks_to : (n : ℕ) → length (marks_to f n) ≡ n
  unfolding marks_to
  length-marks_to zero = refl
  length-marks_to (suc n) = simp length-append (omega (arith, length-marks_to n))

  get_d-marks_to : (n i : ℕ) → i < n → get_or (marks_to f n) i false ≡ f i
  unfolding marks_to
  get_d-marks_to zero i h = absurd (not-suc-le-zero h)
  get_d-marks_to (suc n) i h =
      ⊎_elim
      (λ e. rw e (get_or_at (marks_to f n) (f n) [] false n (length-marks_to n)))
      (λ l. get_or-append (marks_to f n) _ false i (omega (arith, length-marks_to n)) ∙ get_d-marks_to n i l)
      (eq-or-lt_of_le (le_of_suc-le-suc h))

  pub is-marks_to : (n : ℕ) (xs : List Bool) → length xs ≡ n → ((i : ℕ) → i < n → get_or xs i false ≡ f i)
      → xs ≡ marks_to f n
  is-marks_to n xs p h = ext_get_or false xs (marks_to f n) (p ∙ sym (length-marks_to n))
      (λ i l. h i (omega arith) ∙ sym (get_d-marks_to n i (omega arith)))
