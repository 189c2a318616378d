-- `at_inside` meets its contract: the scalar is inside, as the caller promises.
use mathlib.Core.Path.{sym}
use Prim.Native.Nat.{◌+◌, ◌*◌}
use native.Mathlib.Omega.{arith}
use borrow.Author.Tests.{lt-ltb}
use lib.ListN.{length}
use Rattle.linear.proofs.FlatLaws.{at_inside}
use Rattle.linear.proofs.flat.at_inside.Goals as goal

pub returns : goal.returns
returns c =
    let a = c.args in
    sym (at_inside a.xs.now a.i (lt-ltb (2 * a.i + 1) (length a.xs.now) (omega arith)))
