-- `minus_at` meets its contract: the difference along the column and along k, whose places the two calls before it
-- give, chosen.
use Rattle.linear.proofs.SolvedLaws.{value-at}
use Rattle.linear.proofs.solved.minus_at.Goals as goal

pub returns : goal.returns
returns c =
    let a = c.args in
    let d = rw (c.in_column.ensures, c.in_row.ensures) at c.minus_dot.ensures in
    value-at a.m a.n a.jc.now a.from.now a.k.now a.i c.choose.ensures d
    c.at.ensures
