-- `settled` meets its contract: the slot has what is printed and zeros behind it, and in that the first zero is found.
use mathlib.Core.Path.{ap, ◌∙◌}
use borrow.Author.Rules.{rules}
use Rattle.settle.specs.Printed.{before_zero}
use Rattle.settle.proofs.PrintedLaws.{before_padded, settled_slot, settled_ok}
use Rattle.settle.proofs.settled.Goals as goal

pub unwrap-requires : goal.unwrap-requires
unwrap-requires c = settled_ok _ _ _ c.settle_text.result c.requires.0 c.requires.1 c.settle_text.ensures

pub returns : goal.returns
returns c =
    let q = settled_slot _ _ _ c.requires.0 c.requires.1 c.settle_text.ensures in
    record {
      prefix_len = c.printed.ensures.prefix_len;
      slot_after = c.printed.ensures.slot_value ∙ ap before_zero q ∙ before_padded _;
    }
