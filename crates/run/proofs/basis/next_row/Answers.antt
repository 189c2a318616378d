-- `next_row` meets its contract: the length that is left decides the arm.
use Rattle.std.proofs.lemmas.Result.{err_from_is_err_and}
use mathlib.Core.Path.{◌≡◌, refl}
use Prim.Native.Nat.{◌*◌}
use native.Mathlib.Omega.{arith}
use lib.Ieee.{of_bits}
use lib.ListN.{length, take}
use Rattle.run.proofs.BasisLaws.{row_refused, row_new, row_dependent}
use Rattle.run.proofs.basis.next_row.Goals as goal

pub returns-then-definitely_greater : goal.returns-then-definitely_greater
unfolding of_bits
returns-then-definitely_greater c =
    let a =
    c.args in
    let k =
    c.measure in
    row_new a.passed.k a.passed.r a.passed.m a.wide.now a.jc.now a.q.now
    a.gram.now a.coefficients.now a.dependent.now a.order.now k.result
    (take (2 * a.passed.r) k.new.a) k.ensures
    c.in_ok-length.was
    c.definitely_greater.ensures
    c.if-definitely_greater.true
    (c.add_row.ensures a.dependent.now a.order.now)

pub returns : goal.returns
unfolding of_bits
returns c =
    let a = c.args in
    let k = c.measure in
    let x = k.new.a in
    let l : length x ≡ 24 = k.auto.a in
    row_dependent a.passed.k a.passed.r a.passed.m a.wide.now a.jc.now a.q.now
    a.gram.now a.coefficients.now a.dependent.now a.order.now k.result
    (take (2 * a.passed.r) x) k.ensures x refl (omega (arith, l, c.requires.0.independent, c.requires.0.row))
    c.in_ok-length.was
    c.definitely_greater.ensures
    c.if-definitely_greater.false c.chosen_at.ensures

pub returns-in_err-length : goal.returns-in_err-length
returns-in_err-length c =
    let a =
    c.args in
    let k = c.measure in
    let p = err_from_is_err_and c.from_residual.result c.from_residual.ensures.1 in
    rw (p.1, p.2)
    (row_refused a.passed.k a.passed.r a.passed.m a.wide.now a.jc.now a.q.now
    a.gram.now a.coefficients.now a.dependent.now a.order.now k.result
    (take (2 * a.passed.r) k.new.a) k.ensures c.in_err-length.was)
