-- `put` meets its contract: the test on the half of the length says whether the scalar is inside.
use mathlib.Core.Path.{sym}
use Prim.Native.Nat.{◌+◌, ◌*◌}
use native.Mathlib.Omega.{arith}
use borrow.Author.Tests.{lt-ltb, le-ltb}
use lib.ListN.{length}
use Rattle.linear.proofs.FlatLaws.{put_inside, put_outside}
use Rattle.linear.proofs.flat.put.Goals as goal

pub returns-then-i-xs : goal.returns-then-i-xs
returns-then-i-xs c =
    let a = c.args in
    sym (put_inside a.xs.now a.i a.v (lt-ltb (2 * a.i + 1) (length a.xs.now) (omega arith)))

pub returns-else-i-xs : goal.returns-else-i-xs
returns-else-i-xs c =
    let a = c.args in
    sym (put_outside a.xs.now a.i a.v (le-ltb (2 * a.i + 1) (length a.xs.now) (omega arith)))
