-- How many bytes stand before the first zero byte.
use Rattle.std.proofs.Common.{◌≡◌, ℕ, ◌+◌, List, [], ◌∷◌, length, take, refl, ap}
use native.Mathlib.Numerals.{add-one}
use mathlib.Core.Path.{◌∙◌, sym}
use borrow.Author.Tests.{eq-eqb, ne_eqb}
use lib.Dec.{eqb}
use mathlib.Core.Bool.{Bool, true, false}
use Rattle.interval.specs.Scalar.{pick}
use Rattle.settle.specs.Printed.{before_zero}

abbrev pub before_count : List ℕ → ℕ
before_count slot = length (before_zero slot)

pub zero_first : (b : ℕ) (slot : List ℕ) → b ≡ 0 → before_count (b ∷ slot) ≡ 0
unfolding before_zero
zero_first b slot z = rw (eq-eqb b 0 z) refl

pub other_first : (b : ℕ) (slot : List ℕ) → (b ≡ 0 → ⊥) → before_count (b ∷ slot) ≡ before_count slot + 1
unfolding before_zero
other_first b slot n = rw (ne_eqb b 0 n) (sym (add-one (before_count slot)))

pub none_first : before_count [] ≡ 0
unfolding before_zero
none_first = refl

pub take_before : (slot : List ℕ) → take (before_count slot) slot ≡ before_zero slot
unfolding before_zero
take_before [] = refl
take_before (b ∷ slot) = by (eqb b 0) (take_before slot)
  where
    by : (c : Bool) → take (before_count slot) slot ≡ before_zero slot
        → take (length (pick c [] (b ∷ before_zero slot))) (b ∷ slot) ≡ pick c [] (b ∷ before_zero slot)
    by true h = refl
    by false h = ap (λ (l : List ℕ). b ∷ l) h
