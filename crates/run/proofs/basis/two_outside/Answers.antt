-- `two_outside` meets its contract: both differences are stored, the factors of their products exchanged.
use Prim.Native.Nat.{◌+◌}
use Rattle.linear.proofs.SolvedLaws.{two_stored}
use Rattle.run.proofs.BasisLaws.{outside_exchanged}
use Rattle.run.proofs.basis.two_outside.Goals as goal

pub returns : goal.returns
returns c =
    let a = c.args in
    let first = outside_exchanged a.wide.now a.q.now a.a.now a.i a.p a.r
    c.at-y.ensures c.two_minus-d.ensures.0 in
    let second = outside_exchanged a.wide.now a.q.now a.a.now a.i (a.p + 1) a.r
    c.at-z.ensures c.two_minus-d.ensures.1 in
    two_stored a.out.now a.p c.put.ensures
    c.put-2.ensures first second
