-- `multiplier` meets its contract: the definition's steps, from what each call gives.
use Rattle.run.proofs.BasisLaws.{multiplier_is}
use Rattle.run.proofs.basis.multiplier.Goals as goal

pub returns : goal.returns
returns c =
    let a = c.args in
    multiplier_is a.k a.r a.q.now a.pull.now a.by_row.now a.u
    c.row_dot-z.ensures
    (rw (
      c.in_column.ensures,
      c.in_row.ensures,
    ) at c.minus_dot-s.ensures)
    c.at.ensures c.div.ensures.value
    c.store_chosen.ensures
