-- `product` meets its contract: each bound is the greatest of four products, stepped up, with -0 made +0.
use mathlib.Core.Path.{refl, ap}
use lib.Ieee.{of_bits}
use Rattle.linear.specs.Bounds.{unsigned}
use Rattle.linear.proofs.BoundLaws.{product_below, product_above, product_bounds}
use Rattle.linear.proofs.bounds.product.Goals as goal

pub step_up-requires : goal.step_up-requires
step_up-requires c = (product_below c.args.x c.args.y c.greatest_of.ensures refl).1

pub step_up-requires-2 : goal.step_up-requires-2
step_up-requires-2 c =
    (product_above c.args.x c.args.y
    c.greatest_of.ensures
    c.greatest_of-2.ensures).1

pub returns : goal.returns
unfolding of_bits
returns c =
    ap unsigned (product_bounds c.args.x c.args.y
    c.greatest_of.ensures
    c.greatest_of-2.ensures
    c.step_up.ensures
    c.step_up-2.ensures).value
