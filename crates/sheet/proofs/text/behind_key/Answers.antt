-- `behind_key` meets its contract: what is left of the key must stand at the place reached.
use borrow.Author.Rules.{rules}
use mathlib.Core.Path.{◌≡◌, sym, ◌∙◌}
use Rattle.std.specs.Prelude.{Err}
use Rattle.sheet.specs.program.Text.{rest_at}
use Rattle.sheet.proofs.Tests.{passed_on}
use Rattle.sheet.proofs.TextLaws.{key_turn, key_fault, key_end}
use Rattle.sheet.proofs.text.behind_key.Goals as goal

pub returns-in_err-place : goal.returns-in_err-place
returns-in_err-place c =
    let r : c.from_residual.result ≡ Err c.in_err-place.field-0.0 = search rules in
    passed_on (rest_at _) r
    (sym (c.loop-b.invariant ∙ key_fault _ _ _ c.loop-b-test.true (sym c.in_err-place.ensures)))

pub loop-b-preserved : goal.loop-b-preserved
loop-b-preserved c =
    c.loop-b.invariant ∙ key_turn _ _ _ c.loop-b-test.true (sym c.in_ok-place.ensures)

pub returns : goal.returns
returns c = sym (c.loop-b.invariant ∙ key_end _ _ _ c.loop-b-test.false)
