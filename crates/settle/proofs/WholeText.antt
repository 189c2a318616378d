-- What is printed of a text's first bytes is what is printed of all of it: they are all, or more than a sheet has.
use Rattle.std.proofs.Common.{◌≡◌, ℕ, ◌+◌, ◌<◌, Bool, true, false, List, [], ◌++◌, None, Some, OnOk, IfSome, Result, Ok, Err}
use Rattle.std.proofs.Common.{refl, ap, sym, ◌∙◌, subst, arith, length, length-append, append-nil}
use borrow.Author.Tests.{true-ltb, false-ltb}
use lib.Dec.{ltb}
use Rattle.std.specs.declared.option.Option.{Option}
use Rattle.std.specs.Io.KnownBytes.{Consumes, IsAtEnd}
use Rattle.sheet.proofs.SheetLaws.{read_long}
use Rattle.sheet.specs.Settling.{print_of, printed_sheet}
use Rattle.sheet.specs.Sheet.{most_bytes}

long : (t more : List ℕ) → most_bytes < length t → print_of t ≡ print_of (t ++ more)
long t more h =
    ap printed_sheet (sym (read_long t h) ∙ read_long (t ++ more) (omega (arith, h, length-append t more)))

first : (t more : List ℕ) → (length t < most_bytes + 1 → more ≡ []) → print_of t ≡ print_of (t ++ more)
first t more end = by (ltb most_bytes (length t)) refl
  where
    by : (b : Bool) → b ≡ ltb most_bytes (length t) → print_of t ≡ print_of (t ++ more)
    by true q = long t more (true-ltb _ _ q)
    by false q = ap print_of (sym (ap (λ l. t ++ l) (end (omega (arith, false-ltb _ _ q))) ∙ append-nil t))

-- t was read, and b is left; bytes are left only behind more than a sheet has
pub whole : (a b : Option (List ℕ)) (t : List ℕ) (P : List ℕ → Type 0) → Consumes a b t
    → (length t < most_bytes + 1 → IsAtEnd b) → P (print_of t) → IfSome a (λ text. P (print_of text))
whole None b t P read end printed = tt
whole (Some x) None t P read end printed = absurd read
whole (Some x) (Some y) t P read end printed = subst P (first t y end ∙ ap print_of (sym read)) printed

pub on_ok : {T E : Type 0} {P Q : Type 0} (r : Result T E) → (P → Q) → OnOk r P → OnOk r Q
on_ok (Ok x) f p = f p
on_ok (Err e) f p = tt
