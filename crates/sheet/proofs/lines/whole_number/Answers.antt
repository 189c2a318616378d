-- `whole_number` meets its contract: below 0 the size of v is one more than what the machine's v + 1 leaves of 0.
use Prim.Native.Nat.{ℕ, zero, suc, ◌+◌, ◌<◌}
use mathlib.Core.Bool.{true}
use mathlib.Core.List.{◌∷◌}
use mathlib.Core.Path.{◌≡◌, refl, sym, ap, ◌∙◌, subst}
use native.Mathlib.Numerals.{add-one}
use native.Mathlib.Omega.{arith}
use lib.Dec.{T, ltb→lt}
use lib.IntN.{ℤ, pos, negsuc, neg_ℤ, nat_abs, suc_ℤ, ◌+ℤ◌, ◌-ℤ◌, +ℤ_one, neg_ℤ-neg_ℤ}
use lib.Signed.{mag, lt_z}
use mir.Syntax.{w64}
use mir.Val.{SFits, to_z, of_z}
use mir.ValLaws.{to_z-of_z}
use Rattle.sheet.specs.Decimal.{decimal_of, whole_text}
use Rattle.sheet.specs.Numbers.{MINUS}
use Rattle.sheet.proofs.AppendLaws.{appends_as, then}
use Rattle.sheet.proofs.SignedLaws.{from_zero, reads_as, minus_fits}
use Rattle.sheet.proofs.lines.whole_number.Goals as goal

-- what the machine reads back from the bits that it keeps of a number
abbrev read : ℤ → ℤ
read v = to_z w64 (of_z w64 v)

negative : (v : ℤ) → lt_z v (pos 0) ≡ true → v ≡ negsuc (mag v)
negative (pos n) t = let h = ltb→lt n 0 (subst T (sym t) tt) in absurd (omega (arith, h))
negative (negsuc n) t = refl

-- ---- below 0

next : (k : ℕ) → suc_ℤ (negsuc k) ≡ neg_ℤ (pos k)
next zero = refl
next (suc k) = refl

-- v + 1, and what that leaves of 0
abbrev more : ℤ → ℤ
more v = read v +ℤ pos 1

abbrev rest : ℤ → ℤ
rest v = pos 0 -ℤ read (more v)

record Below (v : ℤ) : Type 0 where
  is_read : read v ≡ v
  is : v ≡ negsuc (mag v)
  near : mag v < 9223372036854775808

below : (v : ℤ) → SFits w64 v → lt_z (read v) (pos 0) ≡ true → Below v
below v f t = let e = to_z-of_z w64 v f in record { is_read = e; is = negative v (rw e at t); near = f.sfits }

module _ {v : ℤ} (b : Below v) where
  minus : SFits w64 (neg_ℤ (pos (mag v)))
  minus = minus_fits (mag v) b.near

  plus : SFits w64 (pos (mag v))
  plus = record { sfits = b.near }

  more-is : more v ≡ neg_ℤ (pos (mag v))
  more-is = +ℤ_one (read v) ∙ ap suc_ℤ (b.is_read ∙ b.is) ∙ next (mag v)

  rest_is : rest v ≡ pos (mag v)
  rest_is = from_zero (reads_as more-is minus) ∙ neg_ℤ-neg_ℤ (pos (mag v))

  left_is : read (rest v) ≡ pos (mag v)
  left_is = reads_as rest_is plus

  text : MINUS ∷ decimal_of (nat_abs (read (rest v)) + 1) ≡ whole_text v
  text =
      ap (λ (z : ℤ). MINUS ∷ decimal_of (nat_abs z + 1)) left_is
      ∙ ap (λ (n : ℕ). MINUS ∷ decimal_of n) (add-one (mag v))
      ∙ ap whole_text (sym b.is)

pub returns-then-v-lt0 : goal.returns-then-v-lt0
returns-then-v-lt0 c = (
  omega (arith, c.number.ensures.0, c.append-digits.ensures.0),
  appends_as (then c.append-digits.ensures.1 c.number.ensures.1) (text (below c.args.v c.ranges.v c.if-v-lt0.true)),
)
