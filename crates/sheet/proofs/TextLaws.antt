-- A text from a place on: its first byte, and a key one byte after the other.
use Prim.Native.Nat.{ℕ, ◌+◌, ◌-◌, ◌<◌, ◌≤◌}
use mathlib.Core.Bool.{Bool, true, false}
use mathlib.Core.List.{List, [], ◌∷◌}
use mathlib.Core.Path.{◌≡◌, refl, sym, ◌∙◌}
use native.Mathlib.Nat.{eq-zero-or-pos}
use native.Mathlib.Numerals.{add-one}
use native.Mathlib.Omega.{arith}
use mathlib.Core.Logic.{⊎_elim}
use borrow.Author.Tests.{eq-eqb, ne_eqb}
use lib.Dec.{eqb}
use lib.ListN.{length, drop, get_or, drop_of_length-le}
use lib.Seq.{drop-cons}
use Rattle.interval.specs.Result.{ok, refused}
use Rattle.interval.proofs.Results.{refused_ok}
use Rattle.linear.specs.Replies.{checked_value}
use Rattle.linear.specs.Results.{bind}
use Rattle.sheet.specs.Text.{MALFORMED, head, behind, behind_key}

module _ (text : List ℕ) where
  pub head_inside : {i : ℕ} → i < length text → head (drop i text) ≡ get_or text i 0
  head_inside {i} h = rw (drop-cons text i 0)

  pub head_outside : {i : ℕ} → length text ≤ i → head (drop i text) ≡ 0
  head_outside h = rw (drop_of_length-le text h)

  -- a byte that is not 0 stands inside
  pub is_inside : {i b : ℕ} → head (drop i text) ≡ b → 0 < b → i < length text
  is_inside {i} {b} e h =
      ⊎_elim
      (λ q. let outside : length text ≤ i = omega arith in let z = sym (head_outside outside) ∙ e in omega arith)
      (λ q. omega arith)
      (eq-zero-or-pos (length text - i))

  module _ (b : ℕ) {i : ℕ} where
    pub behind_outside : length text ≤ i → behind b (drop i text) ≡ refused MALFORMED
    unfolding behind
    behind_outside h = rw (drop_of_length-le text h)

    pub behind_other : i < length text → (get_or text i 0 ≡ b → ⊥) → behind b (drop i text) ≡ refused MALFORMED
    unfolding behind
    behind_other h o = rw (drop-cons text i 0 h, ne_eqb _ _ o)

    pub behind_same : i < length text → get_or text i 0 ≡ b → behind b (drop i text) ≡ ok (drop (i + 1) text)
    unfolding behind
    behind_same h e = rw (drop-cons text i 0 h, eq-eqb _ _ e, add-one)

-- `behind` refuses by one number
checked_fault :
    (t : Bool) (rest : List ℕ) {k : ℕ} → checked_value t MALFORMED (ok rest) ≡ refused k →
    checked_value t MALFORMED (ok rest) ≡ refused MALFORMED
checked_fault true rest e = absurd (refused_ok (sym e))
checked_fault false rest e = refl

pub behind_fault : (b : ℕ) (text : List ℕ) {k : ℕ} → behind b text ≡ refused k → behind b text ≡ refused MALFORMED
unfolding behind
behind_fault b [] e = refl
behind_fault b (c ∷ text) e = checked_fault (eqb c b) text e

module _ (key : List ℕ) (k : ℕ) (text : List ℕ) where
  pub key_turn :
      {rest : List ℕ} → k < length key → behind (get_or key k 0) text ≡ ok rest →
      behind_key (drop k key) text ≡ behind_key (drop (k + 1) key) rest
  unfolding behind_key bind
  key_turn h e = rw (drop-cons key k 0 h, e, add-one)

  pub key_fault :
      {fault : ℕ} → k < length key → behind (get_or key k 0) text ≡ refused fault →
      behind_key (drop k key) text ≡ refused fault
  unfolding behind_key bind
  key_fault h e = rw (drop-cons key k 0 h, e)

  pub key_end : length key ≤ k → behind_key (drop k key) text ≡ ok text
  unfolding behind_key
  key_end h = rw (drop_of_length-le key h)
