-- `falls` meets its contract: each arm is the definition's.
use Rattle.std.proofs.lemmas.Result.{err_from_is_err_and}
use mathlib.Core.Path.{ap, ◌∙◌}
use lib.Ieee.{of_bits}
use Rattle.interval.specs.declared.Scalar.{Scalar}
use Rattle.interval.specs.Result.{ok}
use Rattle.interval.specs.Scalar.{zero_s, definitely_greater}
use Rattle.linear.specs.Results.{bind}
use Rattle.run.proofs.proposal.falls.Goals as goal

pub returns : goal.returns
unfolding bind of_bits
returns c =
    let d = ap (λ (s : Scalar). definitely_greater s zero_s) c.sub.ensures.value in
    rw c.in_ok-predicted.was (ap ok (c.definitely_greater.ensures ∙ d))

pub returns-in_err-predicted : goal.returns-in_err-predicted
unfolding bind
returns-in_err-predicted c =
    let p = err_from_is_err_and c.from_residual.result c.from_residual.ensures.1 in
    rw (p.1, p.2, c.in_err-predicted.was)
