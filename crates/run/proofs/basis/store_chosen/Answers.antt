-- `store_chosen` meets its contract: each exit is the definition's.
use mathlib.Core.Path.{ap}
use Rattle.std.proofs.lemmas.Result.{err_from_is_err_and}
use Rattle.interval.specs.Result.{ok}
use Rattle.linear.specs.Results.{bind}
use Rattle.run.proofs.basis.store_chosen.Goals as goal

pub returns-in_err-q : goal.returns-in_err-q
unfolding bind
returns-in_err-q c =
    let p = err_from_is_err_and c.from_residual.result c.from_residual.ensures.1 in
    rw (p.1, p.2, c.in_err-q.was)

pub returns : goal.returns
unfolding bind
returns c = rw (c.in_ok-q.was, ← c.choose.ensures) (ap ok c.put.ensures)
