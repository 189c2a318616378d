-- `minus_fresh` meets its contract: the bounds of the product are added to those of z, each to the other.
use Rattle.interval.specs.Scalar.{mul_of}
use Rattle.linear.proofs.BoundLaws.{difference_below, difference_above, difference_bounds}
use Rattle.linear.proofs.bounds.minus_fresh.Goals as goal

pub step_up-requires : goal.step_up-requires
step_up-requires c = (difference_below c.args.z (mul_of c.args.x c.args.y) c.requires
    c.product_fresh-p.ensures).1

pub step_up-requires-2 : goal.step_up-requires-2
step_up-requires-2 c = (difference_above c.args.z (mul_of c.args.x c.args.y) c.requires
    c.product_fresh-p.ensures).1

pub returns : goal.returns
returns c =
    difference_bounds c.args.z (mul_of c.args.x c.args.y)
    c.requires c.product_fresh-p.ensures
    c.step_up.ensures c.step_up-2.ensures
