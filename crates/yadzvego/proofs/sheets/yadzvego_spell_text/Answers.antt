-- `yadzvego_spell_text` meets its contract: the case that the call returned crosses as its two numbers.
use mathlib.Core.List.{List}
use mathlib.Core.Path.{◌≡◌, sym, ap, ◌∙◌}
use Prim.Native.Nat.{ℕ}
use borrow.Author.Rules.{rules}
use Rattle.std.specs.Prelude.{Result}
use Rattle.sheet.specs.Spelling.{AfterSpelling, after_spelling, returned_in}
use Rattle.sheet.specs.declared.fault.Fault.{Fault}
use Rattle.yadzvego.specs.SpellResult.{spell_result_of}
use Rattle.yadzvego.proofs.sheets.yadzvego_spell_text.Goals as goal

-- a call r that returned the case x and left a
crossed : (r x : Result ℕ Fault) {out : List ℕ} {a : AfterSpelling} → after_spelling (returned_in r) out ≡ a → r ≡ x →
    (spell_result_of (returned_in x) ≡ spell_result_of a.returned) × (out ≡ a.out)
crossed r x e q = (
  ap (λ (s : Result ℕ Fault). spell_result_of (returned_in s)) (sym q)
      ∙ ap (λ (b : AfterSpelling). spell_result_of b.returned) e,
  ap (λ (b : AfterSpelling). b.out) e,
)

pub returns-in-Ok : goal.returns-in-Ok
returns-in-Ok c =
    let q = crossed c.spell_text.result _ c.spell_text.ensures c.in-Ok.is in
    record { value = q.0; out_after = q.1 }

pub returns-in-Err : goal.returns-in-Err
returns-in-Err c =
    let q = crossed c.spell_text.result _ c.spell_text.ensures c.in-Err.is in
    record { value = rw c.number.ensures q.0; out_after = q.1 }
