-- `two_minus` meets its contract: both sums from the negated starts, negated, and else each of them by itself.
use mathlib.Core.Path.{◌∙◌}
use Rattle.linear.proofs.Sums.{negated_back}
use Rattle.linear.proofs.BoundLaws.{bounds_back}
use Rattle.linear.proofs.SumBounds.{anew}
use Rattle.linear.proofs.dots.two_minus.Goals as goal

pub returns-then-is_proper-2 : goal.returns-then-is_proper-2
returns-then-is_proper-2 c =
    let s = simp anew at c.two_inside-sums.ensures in
    let first = bounds_back c.bounds_of-first.ensures ∙ c.neg.ensures.value in
    let second = bounds_back c.bounds_of-second.ensures ∙ c.neg-2.ensures.value in (
      negated_back _ _ _ _ first s.0 c.neg-then-is_proper-2.ensures.value,
      negated_back _ _ _ _ second s.1
          c.neg-then-is_proper-2-2.ensures.value,
    )
