-- `add_row` meets its contract: the row's place, and the definition's steps, from what each call gives.
use Rattle.std.proofs.lemmas.Result.{err_from_is_err_and}
use mathlib.Core.Path.{sym, ap, ◌∙◌}
use Prim.Native.Nat.{◌+◌}
use Rattle.linear.specs.LinearResult.{done_of}
use Rattle.run.specs.program.Basis.{basis_by}
use lib.Ieee.{of_bits}
use lib.ListN.{set}
use Rattle.run.proofs.BasisLaws.{new_refused, new_added}
use Rattle.run.proofs.basis.add_row.Goals as goal

pub returns : goal.returns
unfolding of_bits
returns c =
    let a = c.args in
    let p = c.parts_out in
    let k = c.norm_of in
    let g = c.gram_row in
    λ w o. ap (λ d. done_of d (basis_by (a.passed.r + 1) c.unit.new.to g.new.gram c.put.new.xs w
    (set o a.passed.r a.passed.m)))
    (sym c.in_ok-gram_row.was)
    ∙ new_added a.passed.k a.passed.r a.passed.m a.jc.now a.q.now a.gram.now a.coefficients.now w o
    c.row_of.new.v p.new.v p.new.coefficients k.result c.row_of.ensures p.ensures k.ensures g.new.gram g.result
    c.in_ok-norm_of.was c.sharpen-length.ensures c.unit.ensures c.put.ensures g.ensures

pub returns-in_err-gram_row : goal.returns-in_err-gram_row
unfolding of_bits
returns-in_err-gram_row c =
    let a = c.args in
    let p = c.parts_out in
    let k = c.norm_of in
    let g = c.gram_row in
    let e = err_from_is_err_and c.from_residual-in_err-gram_row.result c.from_residual-in_err-gram_row.ensures.1 in
    λ w o. rw (e.1, e.2)
    (ap (λ d. done_of d (basis_by (a.passed.r + 1) c.unit.new.to g.new.gram c.put.new.xs w
    (set o a.passed.r a.passed.m)))
    (sym c.in_err-gram_row.was)
    ∙ new_added a.passed.k a.passed.r a.passed.m a.jc.now a.q.now a.gram.now a.coefficients.now w o
    c.row_of.new.v p.new.v p.new.coefficients k.result c.row_of.ensures p.ensures k.ensures g.new.gram g.result
    c.in_ok-norm_of.was c.sharpen-length.ensures c.unit.ensures c.put.ensures g.ensures)

pub returns-in_err-norm_of : goal.returns-in_err-norm_of
unfolding of_bits
returns-in_err-norm_of c =
    let a = c.args in
    let p = c.parts_out in
    let k = c.norm_of in
    let e = err_from_is_err_and c.from_residual.result c.from_residual.ensures.1 in
    λ w o. rw (e.1, e.2)
    (new_refused a.passed.k a.passed.r a.passed.m a.jc.now a.q.now a.gram.now a.coefficients.now w o
    c.row_of.new.v p.new.v p.new.coefficients k.result c.row_of.ensures p.ensures k.ensures c.in_err-norm_of.was)
