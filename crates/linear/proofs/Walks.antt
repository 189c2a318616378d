-- A walk along a run of scalars with its place cut off at the list's end: the place is the run's, or both are outside
-- the list.
use Prim.Native.Nat.{ℕ, ◌+◌, ◌*◌, ◌≤◌, min}
use mathlib.Core.Logic.{⊎_elim}
use mathlib.Core.Path.{◌≡◌, sym, ap, ◌∙◌}
use mathlib.Core.List.{List}
use native.Mathlib.Nat.{suc-mul}
use native.Mathlib.Numerals.{add-one}
use native.Mathlib.Omega.{arith}
use borrow.Author.Tests.{le-ltb}
use lib.Ieee.{Float, nan}
use lib.ListN.{length}
use Rattle.interval.specs.Scalar.{degenerate}
use Rattle.linear.specs.Flat.{at}
use Rattle.linear.proofs.FlatLaws.{at_outside}
use Rattle.linear.proofs.FactorEntries.{same_or_not}

-- i and p are the same place, or both beyond the first `size`
pub record Cut (size i p : ℕ) : Type 0 where
  pub is : min i size ≡ min p size

beyond : (xs : List Float) (i : ℕ) → length xs ≤ i → at xs i ≡ degenerate nan
beyond xs i h = at_outside xs i (le-ltb (2 * i + 1) (length xs) (omega arith))

pub at_cut : (xs : List Float) {i p : ℕ} → Cut (length xs) i p → at xs i ≡ at xs p
at_cut xs {i} {p} e =
    ⊎_elim
    (λ q. ap (at xs) q)
    (λ q. beyond xs i (omega arith) ∙ sym (beyond xs p (omega arith)))
    (same_or_not i p)

module _ (size base step : ℕ) where
  -- the start, and one step more
  pub cut_none : Cut size base (base + 0 * step)
  cut_none = omega arith

  pub cut_more : {i r : ℕ} (t : ℕ) → Cut size i (base + t * step) → r ≡ min (i + step) size
      → Cut size r (base + (t + 1) * step)
  cut_more t e q = let m : (t + 1) * step ≡ t * step + step = rw (add-one, suc-mul) in omega arith

-- the same of a run with step 1, along a list that keeps its size
pub cut_next : (base t : ℕ) {size n i r : ℕ} → Cut size i (base + t) → r ≡ min (i + 1) n → n ≡ size
    → Cut size r (base + (t + 1))
cut_next base t e q h = omega arith

pub cut_size : {size n i p : ℕ} → Cut size i p → n ≡ size → Cut n i p
cut_size e h = rw h e
