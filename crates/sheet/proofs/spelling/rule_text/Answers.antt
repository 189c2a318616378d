-- `rule_text` meets its contract: each kind of rule has its line.
use native.Mathlib.Omega.{arith}
use Rattle.sheet.specs.Spelling.{rule_text}
use Rattle.sheet.proofs.AppendLaws.{then}
use Rattle.sheet.proofs.spelling.rule_text.Goals as goal

pub returns-in-Span : goal.returns-in-Span
unfolding rule_text
returns-in-Span c = (
  omega (
    arith,
    c.append.ensures.0,
    c.number-fourth.ensures.0,
    c.append-third.ensures.0,
    c.pair-second.ensures.0,
    c.append-first.ensures.0,
  ),
  rw c.in-Span.is
      (then c.append-first.ensures.1
      (then
      (then c.pair-second.ensures.1 (then c.append-third.ensures.1 c.number-fourth.ensures.1))
      c.append.ensures.1)),
)

pub returns-in-Level : goal.returns-in-Level
unfolding rule_text
returns-in-Level c = (omega (arith, c.aligned_text.ensures.0), rw c.in-Level.is c.aligned_text.ensures.1)

pub returns-in-Plumb : goal.returns-in-Plumb
unfolding rule_text
returns-in-Plumb c =
    (omega (arith, c.aligned_text-in-Plumb.ensures.0), rw c.in-Plumb.is c.aligned_text-in-Plumb.ensures.1)
