-- `value` meets its contract: each arm by the kind of the rule.
use mathlib.Core.Path.{ap, ◌∙◌}
use native.Mathlib.Omega.{arith}
use mir.Syntax.{w64}
use mir.ValLaws.{to_z_pos}
use Rattle.interval.specs.Scalar.{from_i64}
use Rattle.sheet.proofs.RowLaws.{value_span, value_level, value_plumb}
use Rattle.sheet.proofs.rows.value.Goals as goal

pub returns-in-Span : goal.returns-in-Span
returns-in-Span c =
    let r = c.args.rule in
    value_span c.args.x.now r
    c.in-Span.is
    c.difference.ensures
    c.square-dx.ensures
    c.difference-in-Span.ensures
    c.square-dy.ensures
    c.add.ensures.value
    (c.from_i64.ensures ∙ ap from_i64 (to_z_pos w64 r.length (omega (arith, c.requires.length))))
    c.square.ensures
    c.sub.ensures.value

pub returns-in-Level : goal.returns-in-Level
returns-in-Level c = value_level c.args.x.now c.args.rule c.in-Level.is c.difference-in-Level.ensures

pub returns-in-Plumb : goal.returns-in-Plumb
returns-in-Plumb c = value_plumb c.args.x.now c.args.rule c.in-Plumb.is c.difference-in-Plumb.ensures
