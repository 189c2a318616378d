-- `rule` meets its contract: the first letter decides.
use mathlib.Core.Path.{sym, ◌∙◌}
use borrow.Author.Tests.{eq-eqb, ne_eqb}
use Rattle.sheet.specs.Sheet.{rule_of, level_of, plumb_of}
use Rattle.sheet.proofs.reader.rule.Goals as goal

pub returns-then-first-eq115 : goal.returns-then-first-eq115
unfolding rule_of
returns-then-first-eq115 c = rw (eq-eqb _ 115 (sym c.byte_at-first.ensures ∙ c.if-first-eq115.true)) c.span.ensures

pub returns-then-first-eq108 : goal.returns-then-first-eq108
unfolding rule_of level_of
returns-then-first-eq108 c =
    let e = c.byte_at-first.ensures in
    rw (ne_eqb _ 115 (λ q. c.if-first-eq115.false (e ∙ q)), eq-eqb _ 108 (sym e ∙ c.if-first-eq108.true))
    c.aligned.ensures

pub returns : goal.returns
unfolding rule_of plumb_of
returns c =
    let e = c.byte_at-first.ensures in
    rw (ne_eqb _ 115 (λ q. c.if-first-eq115.false (e ∙ q)), ne_eqb _ 108 (λ q. c.if-first-eq108.false (e ∙ q)))
    c.aligned-2.ensures
