-- `inverse` meets its contract: the test decides the refusal.
use Rattle.std.proofs.Common.{sym, ap, ◌∙◌}
use lib.Ieee.{of_bits}
use Rattle.interval.specs.Result.{ok}
use Rattle.interval.specs.Scalar.{inverse_of}
use Rattle.interval.proofs.Scalar.inverse.Goals as goal

pub returns-then-holds_zero : goal.returns-then-holds_zero
unfolding inverse_of
returns-then-holds_zero c = simp (sym c.holds_zero.ensures ∙ c.if-holds_zero.true)

pub returns : goal.returns
unfolding inverse_of of_bits
returns c =
    simp (sym c.holds_zero.ensures ∙ c.if-holds_zero.false) (ap ok (cc))
