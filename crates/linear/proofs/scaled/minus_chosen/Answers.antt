-- `minus_chosen` meets its contract: both ways choose from the difference.
use mathlib.Core.Path.{◌∙◌}
use Rattle.interval.specs.Scalar.{mul_of}
use Rattle.linear.proofs.BoundLaws.{difference_chosen}
use Rattle.linear.proofs.scaled.minus_chosen.Goals as goal

pub returns-then-is_proper : goal.returns-then-is_proper
returns-then-is_proper c =
    let a = c.args in
    c.degenerate.ensures ∙ c.chosen.ensures ∙ difference_chosen a.z (mul_of a.x a.y)
    c.bounds_of-b.ensures c.minus_product.ensures
