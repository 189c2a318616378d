-- `next_up` meets its contract: below infinity the chosen pattern is the next float's; infinity and NaN stay.
use Rattle.std.proofs.Common.{ℕ, not, T, sym, ap, ◌∙◌, subst}
use lib.Ieee.{of_bits, div, binary64, nan_bits, le}
use Rattle.interval.specs.Scalar.{zero64}
use Rattle.interval.proofs.Given.{yes}
use Rattle.interval.proofs.NextUp.{Stepped, stepped, ends}
use Rattle.interval.proofs.step.next_up.Goals as goal

above : (c : goal.Then-x) → Stepped c.args.x (le zero64 c.args.x)
unfolding of_bits div
above c = stepped c.args.x (yes c.well_formed.0.1) c.if-x.true

pub pattern_above-requires : goal.pattern_above-requires
unfolding of_bits
pattern_above-requires c = (above c).some

pub float_from_bits-result : goal.float_from_bits-result
unfolding of_bits
float_from_bits-result c =
    subst (λ (n : ℕ). T (not (nan_bits binary64 n))) (sym c.pattern_above.ensures) (above c.before).number

pub returns-then-x : goal.returns-then-x
unfolding of_bits
returns-then-x c = ap (of_bits binary64) c.pattern_above.ensures ∙ (above c.before).next

pub returns : goal.returns
unfolding of_bits div
returns c = ends c.args.x c.if-x.false
