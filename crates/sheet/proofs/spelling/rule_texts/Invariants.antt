-- `rule_texts` meets its contract: the lines of the rules so far are written.
use mathlib.Core.Path.{◌≡◌}
use Prim.Native.Nat.{◌+◌, ◌*◌, ◌≤◌}
use lib.ListN.{length, take}
use Rattle.sheet.specs.Spelling.{rule_texts}
use Rattle.sheet.specs.program.Lines.{Appends}
use Rattle.sheet.proofs.spelling.rule_texts.Given as goal

abbrev pub invariant-loop-rule : goal.invariant-loop-rule
invariant-loop-rule l = (length l.out ≡ length l.initial.out) × (l.end ≤ l.place + 68 * l.rule-index) ×
    Appends l.initial.out l.place (rule_texts (take l.rule-index l.rule-items)) l.out l.end
