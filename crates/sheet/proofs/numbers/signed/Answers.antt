-- `signed` meets its contract: the first byte tells the sign, and a sign stands inside the text.
use mathlib.Core.Path.{sym, ap, ◌∙◌}
use Rattle.sheet.specs.program.Numbers.{capped_one}
use Rattle.sheet.proofs.NumberLaws.{after_minus, after_plus, no_sign}
use Rattle.sheet.proofs.numbers.signed.Goals as goal

pub returns-then-sign-eq-MINUS : goal.returns-then-sign-eq-MINUS
returns-then-sign-eq-MINUS c =
    let a = c.args in
    let e = sym c.byte_at-sign.ensures ∙ c.if-sign-eq-MINUS.true in
    c.unsigned.ensures ∙ ap capped_one (sym (after_minus a.text.now a.at e))

pub returns-then-sign-eq-PLUS : goal.returns-then-sign-eq-PLUS
returns-then-sign-eq-PLUS c =
    let a = c.args in
    let e = sym c.byte_at-sign.ensures ∙ c.if-sign-eq-PLUS.true in
    c.unsigned-then-sign-eq-PLUS.ensures ∙ ap capped_one (sym (after_plus a.text.now a.at e))

pub returns : goal.returns
returns c =
    let a = c.args in
    let e = c.byte_at-sign.ensures in
    c.unsigned-2.ensures
    ∙ ap capped_one
    (sym (no_sign a.text.now a.at (λ q. c.if-sign-eq-MINUS.false (e ∙ q))
    (λ q. c.if-sign-eq-PLUS.false (e ∙ q))))
