-- `behind` meets its contract: the byte that must stand there, another byte, or none.
use mathlib.Core.Path.{sym}
use Rattle.sheet.proofs.TextLaws.{behind_outside, behind_other, behind_same}
use Rattle.sheet.proofs.text.behind.Goals as goal
use Rattle.sheet.proofs.text.behind.Goals.{
  else-at-text-via-then-at-text+else-text-at,
  else-at-text-via-else-at-text,
}

pub returns-then-text-at : goal.returns-then-text-at
returns-then-text-at c = sym (behind_same _ _ c.if-at-text.true c.if-text-at.true)

pub returns : goal.returns
returns c =
    elim c.else-at-text.branch [
      | else-at-text-via-then-at-text+else-text-at w ↦ sym (behind_other _ _ w.if-at-text.true w.if-text-at.false)
      | else-at-text-via-else-at-text w ↦ sym (behind_outside _ _ w.if-at-text.false)
    ]
