-- `gram_row` meets its contract: the entries below the diagonal, then the diagonal.
use Rattle.std.proofs.lemmas.Result.{err_from_is_err_and}
use Rattle.run.proofs.BasisLaws.{gram_on, gram_refused}
use Rattle.run.proofs.basis.gram_row.Goals as goal

pub returns : goal.returns
returns c =
    let a = c.args in
    let g = c.gram_entries in
    gram_on a.k a.r a.q.now a.gram.now g.new.gram g.result g.ensures
    c.in_ok-gram_entries.was
    c.row_dot-z.ensures
    (rw (
      c.in_row.ensures,
      c.in_row-2.ensures,
    ) at c.minus_dot-s.ensures)
    c.sqrt.ensures.value
    c.store.ensures

pub returns-in_err-gram_entries : goal.returns-in_err-gram_entries
returns-in_err-gram_entries c =
    let a = c.args in
    let g = c.gram_entries in
    let p = err_from_is_err_and c.from_residual.result c.from_residual.ensures.1 in
    rw (p.1, p.2) (gram_refused a.k a.r a.q.now a.gram.now g.new.gram g.result g.ensures c.in_err-gram_entries.was)
