-- `slope` meets its contract: each arm by the kind of the rule.
use lib.Ieee.{of_bits}
use Rattle.sheet.proofs.RowLaws.{slope_span, slope_level, slope_plumb}
use Rattle.sheet.proofs.rows.slope.Goals as goal

pub returns-in-Span : goal.returns-in-Span
unfolding of_bits
returns-in-Span c =
    slope_span c.args.x.now c.args.rule c.in-Span.is c.args.v c.slope_apart-by_y.ensures c.slope_apart.ensures

pub returns-in-Level : goal.returns-in-Level
unfolding of_bits
returns-in-Level c = slope_level c.args.x.now c.args.rule c.in-Level.is c.args.v c.slope_by.ensures

pub returns-in-Plumb : goal.returns-in-Plumb
unfolding of_bits
returns-in-Plumb c = slope_plumb c.args.x.now c.args.rule c.in-Plumb.is c.args.v c.slope_by-in-Plumb.ensures
