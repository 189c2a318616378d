-- `plus_inside` meets its contract: from where the points end the bounds are those of the sum so far, and proper, and
-- each place is inside.
use mathlib.Core.Path.{refl, ◌∙◌}
use native.Mathlib.Nat.{le_antisymm}
use borrow.Author.Rules.{rules}
use Rattle.linear.specs.Flat.{along}
use Rattle.linear.proofs.Sums.{plus_to-more, points_within}
use Rattle.linear.proofs.BoundLaws.{bounds_back, bounding}
use Rattle.linear.proofs.dots.plus_inside.Goals as goal

pub loop-t-init : goal.loop-t-init
loop-t-init c = (points_within _ _ _ c.plus_points_inside-begun.ensures.0, λ z h. h)

pub plus_product-sum-requires : goal.plus_product-sum-requires
plus_product-sum-requires c = (c.loop-t.invariant.1 _ c.plus_points_inside-begun.ensures.1).proper

pub loop-t-preserved : goal.loop-t-preserved
unfolding along
loop-t-preserved c =
    let l = c.loop-t in (
      search rules,
      λ z h. bounding (plus_to-more _ _ z l.t (bounds_back (l.invariant.1 z h).value)
          c.at_inside-x.ensures c.at_inside.ensures refl refl)
          c.plus_product-sum.ensures,
    )

pub returns : goal.returns
returns c =
    let l = c.loop-t in
    let b = l.invariant.1 _ c.plus_points_inside-begun.ensures.1 in
    rw (
      le_antisymm l.invariant.0 c.loop-t-test.false,
      bounds_back c.bounds_of.ensures,
    ) at (c.scalar_of.ensures ∙ bounds_back b.value)
