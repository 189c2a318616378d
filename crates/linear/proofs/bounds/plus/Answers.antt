-- `plus` meets its contract: the bounds of the product are added to those of z, each to its own, and no sum is -0.
use Rattle.interval.proofs.Given.{yes}
use Rattle.linear.proofs.BoundLaws.{product_sum_below, product_sum_above, product_sum_bounds}
use Rattle.linear.proofs.bounds.plus.Goals as goal

pub step_on-requires : goal.step_on-requires
step_on-requires c =
    let g = c.well_formed.0.1.1 in
    let p = c.requires.1 in
    (product_sum_below c.args.z p.first p.second c.requires.0 (yes g.0.1) (yes g.1.0.1) p.value).0

pub step_on-requires-2 : goal.step_on-requires-2
step_on-requires-2 c =
    let g = c.well_formed.0.1.1 in
    let p = c.requires.1 in
    (product_sum_above c.args.z p.first p.second c.requires.0 (yes g.0.1) (yes g.1.0.1) p.value).0

pub returns : goal.returns
returns c = λ x y e.
    let g = c.well_formed.0.1.1 in
    product_sum_bounds c.args.z x y c.requires.0 (yes g.0.1) (yes g.1.0.1) e
    c.step_on.ensures c.step_on-2.ensures
