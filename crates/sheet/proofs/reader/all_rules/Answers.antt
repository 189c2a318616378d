-- `all_rules` meets its contract: how many rules there are, and the rules.
use borrow.Author.Rules.{rules}
use mathlib.Core.Path.{◌≡◌, sym, ◌∙◌}
use Rattle.std.specs.Prelude.{Err}
use Rattle.linear.proofs.Folds.{bind_ok, bind_refused}
use Rattle.sheet.specs.Sheet.{rules_key, most_rules, all_rules_of}
use Rattle.sheet.specs.program.Sheet.{rules_in}
use Rattle.sheet.proofs.Tests.{passed_on}
use Rattle.sheet.proofs.SheetLaws.{natural_most}
use Rattle.sheet.proofs.reader.all_rules.Goals as goal

pub returns-in_err-count : goal.returns-in_err-count
unfolding all_rules_of
returns-in_err-count c =
    let r : c.from_residual.result ≡ Err c.in_err-count.field-0.0 = search rules in (
      passed_on (rules_in _) r (sym (bind_refused _ (sym c.in_err-count.ensures))),
      rw r tt,
    )

pub rules-requires : goal.rules-requires
rules-requires c = (c.requires, natural_most rules_key 0 most_rules _ (sym c.in_ok-count.ensures))

pub returns : goal.returns
unfolding all_rules_of
returns c =
    (c.rules.ensures.0 ∙ sym (bind_ok _ (sym c.in_ok-count.ensures)), c.rules.ensures.1)
