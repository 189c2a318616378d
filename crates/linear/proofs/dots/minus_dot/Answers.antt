-- `minus_dot` meets its contract: the sum with the signs turned has the difference's bits.
use Rattle.linear.proofs.Sums.{negated_back}
use Rattle.linear.proofs.SumBounds.{anew}
use Rattle.linear.proofs.dots.minus_dot.Goals as goal

pub returns : goal.returns
returns c =
    let s = rw (anew, anew) at c.plus_dot.ensures in
    negated_back _ _ _ _ c.neg.ensures.value s c.neg-2.ensures.value
