-- `check` meets its contract: each check decides one of the definition's.
use Rattle.std.proofs.lemmas.Result.{err_from_is_err_and}
use Rattle.run.specs.program.Checks.{check_of}
use Rattle.run.proofs.CheckLaws.{compared_same, compared_other}
use Rattle.run.proofs.checks.check.Goals as goal

pub returns-in_err-kind : goal.returns-in_err-kind
unfolding check_of
returns-in_err-kind c =
    let p = err_from_is_err_and c.from_residual.result c.from_residual.ensures.1 in
    rw (p.1, p.2, ← c.check_open.ensures, c.in_err-kind.was)

pub returns-then-area-area_length : goal.returns-then-area-area_length
unfolding check_of
returns-then-area-area_length c = rw (
  ← c.check_open.ensures,
  c.in_ok-kind.was,
  compared_other c.area_length.ensures c.if-area-area_length.true,
)

pub returns : goal.returns
unfolding check_of
returns c = rw (
  ← c.check_open.ensures,
  c.in_ok-kind.was,
  compared_same c.area_length.ensures c.if-area-area_length.false,
)
