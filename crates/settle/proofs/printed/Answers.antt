-- `printed` meets its contract: the place of the first zero is how many bytes stand before it.
use Rattle.std.proofs.Common.{◌≡◌, rules, tests, take}
use mathlib.Core.Path.{sym, ap, ◌∙◌}
use Rattle.std.proofs.lemmas.Iterator.{IsFirst-from_position, YieldsList-from_slice, index_from_first}
use Rattle.settle.proofs.ScanLaws.{before_count, none_first, zero_first, other_first, take_before}
use Rattle.settle.proofs.printed.Goals as goal

pub returns-clause-slot_value : goal.returns-clause-slot_value
returns-clause-slot_value c =
    let slot = c.args.slot.now in
    let first = IsFirst-from_position _ _ _ (λ b. b ≡ 0) (λ b. b ≡ 0 → ⊥) c.position.ensures.ran
    (YieldsList-from_slice slot cc) (λ x q k. search (rules, tests)) (λ x q k. search (rules, tests)) in
    let count = index_from_first before_count (λ b. b ≡ 0) (λ b. b ≡ 0 → ⊥) none_first zero_first other_first slot _ first in
    ap (λ k. take k slot) (c.unwrap_or.ensures ∙ sym count) ∙ take_before slot
