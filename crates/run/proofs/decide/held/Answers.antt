-- `held` meets its contract: each part is the definition's, from what each call gives.
use lib.Ieee.{of_bits}
use Rattle.run.proofs.DecideLaws.{held_is}
use Rattle.run.proofs.decide.held.Goals as goal

pub returns : goal.returns
unfolding of_bits
returns c =
    let a = c.args in
    held_is a.old a.predicted a.new c.sub.ensures.value
    c.degenerate.ensures
    c.mul-fell.ensures.value c.sub-2.ensures.value
    c.degenerate-2.ensures c.mul.ensures.value c.definitely_greater.ensures
