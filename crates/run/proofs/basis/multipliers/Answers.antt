-- `multipliers` meets its contract: the fold over the vectors, then its values at their rows.
use mathlib.Core.Path.{refl}
use Rattle.std.proofs.lemmas.Result.{err_from_is_err_and}
use mathlib.Core.List.{[]}
use lib.Ieee.{of_bits}
use lib.ListN.{drop}
use Rattle.run.specs.Basis.{multiplier_step}
use Rattle.run.specs.program.Basis.{basis_by}
use Rattle.run.proofs.BasisLaws.{multipliers_is}
use Rattle.run.proofs.basis.multipliers.Goals as goal

pub returns : goal.returns
unfolding multiplier_step of_bits
returns c =
    let a = c.args in
    let m = c.multipliers_by_row in
    rw c.in_ok-multipliers_by_row.was
    at (multipliers_is a.k (basis_by a.r a.q.now [] (drop 288 a.q.now) [] a.order.now)
    a.pull.now m.new.by_row m.result m.ensures c.spread.ensures)

pub returns-in_err-multipliers_by_row : goal.returns-in_err-multipliers_by_row
unfolding multiplier_step of_bits
returns-in_err-multipliers_by_row c =
    let a = c.args in
    let m = c.multipliers_by_row in
    let p = err_from_is_err_and c.from_residual.result c.from_residual.ensures.1 in
    rw (p.1, p.2)
    (rw c.in_err-multipliers_by_row.was
    at (multipliers_is a.k (basis_by a.r a.q.now [] (drop 288 a.q.now) [] a.order.now)
    a.pull.now m.new.by_row m.result m.ensures refl))
