-- `unsigned` meets its contract: the digits in front, with the cap at each; what is left of them is read on from the
-- size reached.
use borrow.Author.Rules.{rules}
use mathlib.Core.Bool.{true}
use mathlib.Core.Path.{◌≡◌, sym, ap, ◌∙◌}
use Prim.Native.Nat.{◌+◌, ◌-◌, ◌*◌}
use lib.ListN.{drop, get_or}
use Rattle.sheet.specs.Text.{head}
use Rattle.sheet.specs.Numbers.{is_digit}
use Rattle.sheet.proofs.NumberLaws.{capped_most, from_turn, from_stop, from_end, no_digit, digits_read}
use Rattle.sheet.proofs.numbers.unsigned.Goals as goal

pub returns-then-not-is_digit : goal.returns-then-not-is_digit
returns-then-not-is_digit c =
    sym (no_digit _ _ (ap is_digit (sym c.byte_at.ensures) ∙ sym c.is_digit.ensures
    ∙ c.if-not-is_digit.true))

pub returns-then-not-is_digit-2 : goal.returns-then-not-is_digit-2
returns-then-not-is_digit-2 c =
    let l = c.loop-i in
    sym (digits_read _ _ (let e : is_digit (head (drop c.args.at c.args.text.now)) ≡ true =
    ap is_digit (sym c.byte_at.ensures) ∙ sym c.is_digit.ensures
    ∙ c.if-not-is_digit.false in e)
    (l.invariant.2 ∙ from_stop _ _ _ c.loop-i-test.true (sym c.is_digit-in-loop-i.ensures
    ∙ c.if-not-is_digit-2.true)))

pub loop-i-preserved : goal.loop-i-preserved
loop-i-preserved c =
    let l = c.loop-i in (
      search rules,
      rw c.capped-size.ensures (capped_most (10 * l.size + (get_or c.args.text.now c.loop-i.i 0 - 48))),
      l.invariant.2 ∙ from_turn _ _ _ c.loop-i-test.true (sym c.is_digit-in-loop-i.ensures ∙ c.if-not-is_digit-2.false)
          ∙ rw c.capped-size.ensures,
    )

pub returns : goal.returns
returns c =
    sym (digits_read _ _ (let e : is_digit (head (drop c.args.at c.args.text.now)) ≡ true =
    ap is_digit (sym c.byte_at.ensures) ∙ sym c.is_digit.ensures
    ∙ c.if-not-is_digit.false in e) (c.loop-i.invariant.2 ∙ from_end _ _ _ c.loop-i-test.false))
