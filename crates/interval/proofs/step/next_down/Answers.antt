-- `next_down` meets its contract: above minus infinity the chosen pattern is the float before; minus infinity and NaN
-- stay.
use Rattle.std.proofs.Common.{ℕ, not, T, sym, ap, ◌∙◌, subst}
use lib.Ieee.{of_bits, div, binary64, nan_bits, le, neg}
use Rattle.interval.specs.Scalar.{zero64}
use Rattle.interval.proofs.Given.{yes}
use Rattle.interval.proofs.NextDown.{Lowered, lowered, not_nan_turned, ends_turned}
use Rattle.interval.proofs.step.next_down.Goals as goal

below : (c : goal.Then-x) → Lowered c.args.x (le zero64 (neg c.args.x))
unfolding of_bits div
below c = lowered c.args.x (yes c.well_formed.0.1) c.if-x.true

pub float_to_bits-x : goal.float_to_bits-x
unfolding of_bits div
float_to_bits-x c = not_nan_turned c.args.x c.if-x.true

pub pattern_below-requires : goal.pattern_below-requires
unfolding of_bits
pattern_below-requires c = ((below c).room, (below c).some)

pub float_from_bits-result : goal.float_from_bits-result
unfolding of_bits
float_from_bits-result c =
    subst (λ (n : ℕ). T (not (nan_bits binary64 n))) (sym c.pattern_below.ensures) (below c.before).number

pub returns-then-x : goal.returns-then-x
unfolding of_bits
returns-then-x c = ap (of_bits binary64) c.pattern_below.ensures ∙ (below c.before).next

pub returns : goal.returns
unfolding of_bits div
returns c = ends_turned c.args.x c.if-x.false
