-- A word's digits as they are stored, from the last to the first: those that are stored stand behind those to come.
use Prim.Native.Nat.{ℕ, zero, suc, ◌+◌, ◌/◌, ◌%◌, ◌<◌, ◌≤◌}
use mathlib.Core.List.{List, [], ◌∷◌, ◌++◌, append_assoc, append-nil}
use mathlib.Core.Path.{◌≡◌, refl, sym, ap, ◌∙◌}
use native.Mathlib.Nat.{not-suc-le-zero, le_of_suc-le-suc}
use native.Mathlib.Omega.{arith}
use lib.ListN.{length, drop, set, length-set}
use Rattle.float_bits.specs.Word.{digit_of, digits_to, word_of}

pub drop_set : (xs : List ℕ) (i v : ℕ) → i < length xs → drop i (set xs i v) ≡ v ∷ drop (suc i) xs
drop_set [] i v h = absurd (not-suc-le-zero h)
drop_set (x ∷ xs) zero v h = refl
drop_set (x ∷ xs) (suc i) v h = drop_set xs i v (le_of_suc-le-suc h)

-- the digits from place i on are stored, and `rest` has those before
pub record Stored (word : ℕ) (text : List ℕ) (rest i : ℕ) : Type 0 where
  pub few : i ≤ 16
  pub long : length text ≡ 16
  pub is : word_of word ≡ digits_to i rest ++ drop i text

pub stored_none : (word : ℕ) (text : List ℕ) → length text ≡ 16 → drop 16 text ≡ [] → Stored word text word 16
stored_none word text e d = record {
  few = omega arith;
  long = e;
  is = sym (ap (λ (ys : List ℕ). word_of word ++ ys) d ∙ append-nil (word_of word));
}

pub stored_more : {word rest i j d : ℕ} {text : List ℕ} → Stored word text rest i → j + 1 ≡ i → d ≡ digit_of (rest % 16)
    → Stored word (set text j d) (rest / 16) j
unfolding digits_to
stored_more {word} {rest} {i} {j} {d} {text} s e h =
    let k : i ≡ suc j = omega arith in
    record {
      few = omega (arith, s.few);
      long = length-set text j d ∙ s.long;
      is =
          s.is
          ∙ ap (λ (n : ℕ). digits_to n rest ++ drop n text) k
          ∙ append_assoc (digits_to j (rest / 16)) (digit_of (rest % 16) ∷ []) (drop (suc j) text)
          ∙ ap (λ (x : ℕ). digits_to j (rest / 16) ++ (x ∷ drop (suc j) text)) (sym h)
          ∙ ap (λ (ys : List ℕ). digits_to j (rest / 16) ++ ys)
          (sym (drop_set text j d (omega (arith, s.long, s.few))));
    }

pub stored_all : {word rest i : ℕ} {text : List ℕ} → Stored word text rest i → i ≡ 0 → text ≡ word_of word
unfolding digits_to
stored_all {word} {rest} {i} {text} s e = sym (s.is ∙ ap (λ (n : ℕ). digits_to n rest ++ drop n text) e)

pub length_word : (v : ℕ) → length (word_of v) ≡ 16
unfolding digits_to
length_word v = refl
