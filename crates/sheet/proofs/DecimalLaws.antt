-- Decimal digits as they are stored, from the last to the first: those that are stored stand behind those to come, of
-- which there are always enough.
use Prim.Native.Nat.{ℕ, zero, suc, ◌+◌, ◌*◌, ◌^◌, ◌/◌, ◌%◌, ◌<◌, ◌≤◌}
use mathlib.Core.List.{List, [], ◌∷◌, ◌++◌, append_assoc, append-nil}
use mathlib.Core.Path.{◌≡◌, refl, sym, ap, ◌∙◌}
use native.Mathlib.Nat.{pow-suc}
use native.Mathlib.Omega.{arith}
use borrow.Author.Tests.{lt-ltb, le-ltb}
use lib.ListN.{length, drop, set, length-set}
use Rattle.float_bits.proofs.WordLaws.{drop_set}
use Rattle.sheet.specs.Decimal.{DIGITS, decimal_to, decimal_of}

-- the digits from place i on are stored, and `rest`, which is below the power of 10, has those before
pub record Stored (v : ℕ) (digits : List ℕ) (rest i : ℕ) : Type 0 where
  pub few : i ≤ DIGITS
  pub long : length digits ≡ DIGITS
  pub left : 1 ≤ i
  pub below : rest < 10 ^ i
  pub is : decimal_of v ≡ decimal_to i rest ++ drop i digits

pub stored_none : (v : ℕ) (digits : List ℕ) → v < 10 ^ DIGITS → length digits ≡ DIGITS → drop DIGITS digits ≡ []
    → Stored v digits v DIGITS
stored_none v digits h e d = record {
  few = omega arith;
  long = e;
  left = omega arith;
  below = h;
  is = sym (ap (λ (ys : List ℕ). decimal_of v ++ ys) d ∙ append-nil (decimal_of v));
}

-- one digit more, and there are more to come
pub stored_more : {v rest i j d : ℕ} {digits : List ℕ} → Stored v digits rest i → j + 1 ≡ i → 10 ≤ rest
    → d ≡ 48 + rest % 10 → Stored v (set digits j d) (rest / 10) j
unfolding decimal_to
stored_more {v} {rest} {i} {j} {d} {digits} s e h q =
    let k : i ≡ suc j = omega arith in
    let p : 10 ^ i ≡ 10 ^ j * 10 = ap (λ (n : ℕ). 10 ^ n) k ∙ pow-suc 10 j in
    let b : rest / 10 < 10 ^ j = let h₁ = s.below in omega (arith, p, h₁) in
    let inside : j < length digits = let a = s.few in let l = s.long in omega (arith, a, l) in
    record {
      few = omega (arith, s.few);
      long = length-set digits j d ∙ s.long;
      left = some j b;
      below = b;
      is =
          s.is
          ∙ ap (λ (n : ℕ). decimal_to n rest ++ drop n digits) k
          ∙ rw (le-ltb rest 10 h)
          (append_assoc (decimal_to j (rest / 10)) ((48 + rest % 10) ∷ []) (drop (suc j) digits)
          ∙ ap (λ (x : ℕ). decimal_to j (rest / 10) ++ (x ∷ drop (suc j) digits)) (sym q)
          ∙ ap (λ (ys : List ℕ). decimal_to j (rest / 10) ++ ys) (sym (drop_set digits j d inside)));
    }
  where
    -- a rest that is not 0 has digits
    some : (n : ℕ) → rest / 10 < 10 ^ n → 1 ≤ n
    some zero b = absurd (omega (arith, b, h))
    some (suc n) b = omega arith

-- the first digit
pub stored_all : {v rest i d : ℕ} {digits : List ℕ} (j : ℕ) → Stored v digits rest i → j + 1 ≡ i → rest < 10
    → d ≡ 48 + rest → drop j (set digits j d) ≡ decimal_of v
unfolding decimal_to
stored_all {v} {rest} {i} {d} {digits} j s e h q =
    let k : i ≡ suc j = omega arith in
    let inside : j < length digits = let a = s.few in let l = s.long in omega (arith, a, l) in
    drop_set digits j d inside
    ∙ ap (λ (x : ℕ). x ∷ drop (suc j) digits) q
    ∙ sym (s.is ∙ ap (λ (n : ℕ). decimal_to n rest ++ drop n digits) k ∙ rw (lt-ltb rest 10 h) refl)
