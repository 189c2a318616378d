-- `row_points_inside` meets its contract: the bounds are those of the sum so far, and proper, and each place is inside.
use mathlib.Core.Path.{sym, ◌∙◌}
use borrow.Author.Rules.{rules}
use lib.Ieee.{of_bits}
use Rattle.linear.specs.Dot.{plus_to}
use Rattle.linear.proofs.Sums.{along_row}
use Rattle.linear.proofs.SumBounds.{zero_bounds, plus_more}
use Rattle.linear.proofs.dots.row_points_inside.Goals as goal

pub loop-t-init : goal.loop-t-init
unfolding plus_to of_bits
loop-t-init c = (search rules, zero_bounds c.bounds_of-sum.ensures)

pub loop-t-preserved : goal.loop-t-preserved
loop-t-preserved c =
    let l = c.loop-t in
    let x = c.at_inside-x.ensures ∙ sym (along_row _ _ l.t) in
    let y = c.at_inside-y.ensures ∙ sym (along_row _ _ l.t) in
    (search rules, plus_more _ _ _ l.t l.invariant.1 x y c.plus_points-sum.ensures)
