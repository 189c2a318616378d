-- `at` meets its contract: the test on the half of the length says whether the scalar is inside.
use mathlib.Core.Path.{sym, ◌∙◌}
use Prim.Native.Nat.{◌+◌, ◌*◌}
use native.Mathlib.Omega.{arith}
use borrow.Author.Tests.{lt-ltb, le-ltb}
use lib.ListN.{length}
use lib.Ieee.{of_bits, div}
use Rattle.linear.proofs.FlatLaws.{at_inside, at_outside}
use Rattle.linear.proofs.flat.at.Goals as goal

pub returns-then-i-xs : goal.returns-then-i-xs
returns-then-i-xs c = let a = c.args in
    sym (at_inside a.xs.now a.i (lt-ltb (2 * a.i + 1) (length a.xs.now) (omega arith)))

pub returns : goal.returns
unfolding of_bits div
returns c =
    let a = c.args in
    c.degenerate.ensures
    ∙ sym (at_outside a.xs.now a.i (le-ltb (2 * a.i + 1) (length a.xs.now) (omega arith)))
