-- `rule_texts` meets its contract: the lines of the rules so far are written.
use mathlib.Core.Path.{refl, ◌∙◌}
use native.Mathlib.Omega.{arith}
use Rattle.sheet.proofs.SpellingTextLaws.{rules_none, rule_turn}
use Rattle.sheet.proofs.spelling.rule_texts.Goals as goal

pub loop-rule-init : goal.loop-rule-init
loop-rule-init c = (refl, omega arith, rules_none)

pub loop-rule-preserved : goal.loop-rule-preserved
loop-rule-preserved c =
    let v = c.loop-rule.invariant in (
      c.rule_text-end.auto.out ∙ v.0,
      omega (arith, c.rule_text-end.ensures.0, v.1),
      rule_turn c.loop-rule.rule-index _ _ c.loop-rule-test.true v.2 c.rule_text-end.ensures.1,
    )
