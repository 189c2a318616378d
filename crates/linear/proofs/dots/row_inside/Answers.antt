-- `row_inside` meets its contract: from where the points end the bounds are those of the sum so far.
use mathlib.Core.Path.{sym, ◌∙◌}
use borrow.Author.Rules.{rules}
use Rattle.interval.specs.Scalar.{zero_s}
use Rattle.linear.proofs.Sums.{along_row}
use Rattle.linear.proofs.SumBounds.{gone_more, gone_last}
use Rattle.linear.proofs.dots.row_inside.Goals as goal

pub loop-t-preserved : goal.loop-t-preserved
loop-t-preserved c =
    let l = c.loop-t in
    let x = c.at_inside.ensures ∙ sym (along_row _ _ l.t) in
    let y = c.at_inside-in-loop-t.ensures ∙ sym (along_row _ _ l.t) in
    (search rules, gone_more _ _ _ _ l.t l.invariant.1 x y c.plus_product-sum.ensures)

pub returns : goal.returns
returns c =
    let l = c.loop-t in
    gone_last _ _ zero_s _ _ _ _ _ l.invariant.1 c.row_points_inside-begun.ensures.1
    l.invariant.0 c.loop-t-test.false c.scalar_of.ensures
