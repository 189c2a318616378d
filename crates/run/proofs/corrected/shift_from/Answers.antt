-- `shift_from` meets its contract: each test decides one of the definition's, or the shift is refused.
use Rattle.std.proofs.lemmas.Result.{err_from_is_err_and}
use Rattle.run.specs.Rows.{constraints_of}
use Rattle.run.proofs.CorrectedLaws.{shift_refused, goes, not_finite}
use Rattle.run.proofs.corrected.shift_from.Goals as goal

pub returns-in_err-shift : goal.returns-in_err-shift
returns-in_err-shift c =
    let a = c.args in
    let p = err_from_is_err_and c.from_residual.result c.from_residual.ensures.1 in
    rw (p.1, p.2)
    (shift_refused a.moving.now (constraints_of a.c a.xs.now) a.landed.now _ c.in_err-shift.was c.shift.ensures)

pub returns-then-not-all_finite : goal.returns-then-not-all_finite
returns-then-not-all_finite c =
    let a = c.args in
    not_finite a.moving.now (constraints_of a.c a.xs.now) a.landed.now _
    c.in_ok-shift.was c.shift.ensures
    c.all_finite.ensures c.if-not-all_finite.true

pub returns : goal.returns
returns c =
    let a = c.args in
    goes a.moving.now (constraints_of a.c a.xs.now) a.landed.now _
    c.in_ok-shift.was c.shift.ensures c.all_finite.ensures c.moved.ensures c.same.ensures
    c.if-not-all_finite.false
