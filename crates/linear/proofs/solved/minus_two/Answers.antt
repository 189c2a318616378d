-- `minus_two` meets its contract: both differences, chosen, are stored.
use Prim.Native.Nat.{◌+◌}
use Rattle.linear.proofs.SolvedLaws.{value-at, two_stored}
use Rattle.linear.proofs.solved.minus_two.Goals as goal

pub returns : goal.returns
returns c =
    let a = c.args in
    let first = value-at a.m a.n a.jc.now a.from.now a.k.now a.i c.choose.ensures
    c.two_minus-d.ensures.0 c.at.ensures in
    let second = value-at a.m a.n a.jc.now a.from.now a.k.now (a.i + 1)
    c.choose-2.ensures c.two_minus-d.ensures.1 c.at-2.ensures in
    two_stored _ a.i c.put.ensures c.put-2.ensures first second
