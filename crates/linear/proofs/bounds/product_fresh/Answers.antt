-- `product_fresh` meets its contract: each bound is the greatest of four products, stepped up.
use mathlib.Core.Path.{refl}
use Rattle.linear.proofs.BoundLaws.{second_below, second_above, second_bounds}
use Rattle.linear.proofs.bounds.product_fresh.Goals as goal

pub step_up-requires : goal.step_up-requires
step_up-requires c = (second_below c.args.x c.args.y c.greatest_of.ensures refl).1

pub step_up-requires-2 : goal.step_up-requires-2
step_up-requires-2 c =
    (second_above c.args.x c.args.y
    c.greatest_of.ensures
    c.greatest_of-2.ensures).1

pub returns : goal.returns
returns c =
    second_bounds c.args.x c.args.y
    c.greatest_of.ensures
    c.greatest_of-2.ensures
    c.step_up.ensures
    c.step_up-2.ensures
