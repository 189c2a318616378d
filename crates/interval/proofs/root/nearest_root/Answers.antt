-- `nearest_root` meets its contract: what each test leaves of x.
use Rattle.std.proofs.Common.{T, sym, ◌∙◌, subst, le_of_lt}
use lib.Ieee.{of_bits, div, binary64}
use Rattle.interval.proofs.Patterns.{no_nan}
use Rattle.interval.proofs.Tests.{positive, negative}
use Rattle.interval.proofs.RootCases.{root_nan, root_inf, root_zero, root_none, root_above, Above}
use Rattle.interval.proofs.root.nearest_root.Goals as goal

pub returns-then-x : goal.returns-then-x
returns-then-x c = root_nan c.args.x c.if-x.true

pub returns-then-x-2 : goal.returns-then-x-2
unfolding of_bits div
returns-then-x-2 c = root_inf c.args.x c.if-x-2.true

above : (c : goal.Then-x-3) → Above c.args.x
unfolding of_bits div
above c =
    root_above c.args.x (subst T (sym c.well_formed.0.1) tt)
    (positive c.args.x c.if-x.false c.if-x-2.false c.if-x-3.true)

pub root_bits-requires : goal.root_bits-requires
root_bits-requires c = ((above c).0, (above c).1)

pub float_from_bits-result : goal.float_from_bits-result
float_from_bits-result c = no_nan binary64 c.root_bits.result (le_of_lt c.root_bits.ensures.0)

pub returns-then-x-3 : goal.returns-then-x-3
returns-then-x-3 c = c.root_bits.ensures.1 ∙ (above c.before).2

pub returns-then-x-4 : goal.returns-then-x-4
unfolding of_bits
returns-then-x-4 c = root_zero c.args.x c.if-x-4.true

pub returns : goal.returns
unfolding of_bits div
returns c =
    root_none c.args.x (negative c.args.x
    c.if-x.false c.if-x-4.false c.if-x-3.false)
