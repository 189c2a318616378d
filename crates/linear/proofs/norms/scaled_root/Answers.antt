-- `scaled_root` meets its contract: the squares and the root decide the exit.
use mathlib.Core.Path.{ap}
use Rattle.std.proofs.lemmas.Result.{err_from_is_err_and}
use Rattle.interval.specs.Result.{ok}
use Rattle.linear.specs.Results.{bind}
use Rattle.linear.specs.Norm.{scaled_root}
use Rattle.linear.proofs.norms.scaled_root.Goals as goal

pub returns : goal.returns
unfolding scaled_root bind
returns c = rw (c.in_ok-squares.was, ← c.sqrt.ensures.value, c.in_ok-root.was) (ap ok c.mul.ensures.value)

pub returns-in_err-root : goal.returns-in_err-root
unfolding scaled_root bind
returns-in_err-root c =
    let p = err_from_is_err_and c.from_residual-in_err-root.result c.from_residual-in_err-root.ensures.1 in
    rw (c.in_ok-squares.was, ← c.sqrt.ensures.value, c.in_err-root.was, p.1, p.2)

pub returns-in_err-squares : goal.returns-in_err-squares
unfolding scaled_root bind
returns-in_err-squares c =
    let p = err_from_is_err_and c.from_residual.result c.from_residual.ensures.1 in
    rw (p.1, p.2, c.in_err-squares.was)
