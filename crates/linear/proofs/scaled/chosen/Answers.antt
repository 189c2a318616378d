-- `chosen` meets its contract: the lesser bound says whether zero is among the interval.
use lib.Ieee.{of_bits}
use Rattle.interval.proofs.Given.{yes}
use Rattle.linear.proofs.BoundLaws.{chosen_zero, chosen_middle}
use Rattle.linear.proofs.scaled.chosen.Goals as goal

pub returns-then-lesser_of : goal.returns-then-lesser_of
unfolding of_bits
returns-then-lesser_of c =
    let g = c.well_formed.0.1.1 in
    chosen_zero c.args.b c.requires (yes g.0.1) (yes g.1.0.1) c.lesser_of.ensures c.if-lesser_of.true

pub returns : goal.returns
unfolding of_bits
returns c =
    let g = c.well_formed.0.1.1 in
    chosen_middle c.args.b c.requires (yes g.0.1) (yes g.1.0.1) c.lesser_of.ensures
    c.if-lesser_of.false
