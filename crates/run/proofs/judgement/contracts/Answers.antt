-- `contracts` meets its contract.
use mathlib.Core.Path.{ap, ◌∙◌}
use lib.Ieee.{of_bits}
use Rattle.interval.specs.Scalar.{definitely_less}
use Rattle.run.proofs.judgement.contracts.Goals as goal

pub returns-in-Some : goal.returns-in-Some
unfolding of_bits
returns-in-Some c =
    rw c.in-Some.is (c.definitely_less.ensures
    ∙ ap (λ z. definitely_less z c.in-Some.before) c.mul.ensures.value)
