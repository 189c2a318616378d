-- `asked` meets its contract: each exit is the definition's.
use Rattle.std.proofs.lemmas.Result.{err_from_is_err_and}
use Rattle.linear.specs.Results.{bind}
use Rattle.run.proofs.proposal.asked.Goals as goal

pub returns-in_err-tried : goal.returns-in_err-tried
unfolding bind
returns-in_err-tried c delta lambda next =
    let p = err_from_is_err_and c.from_residual.result c.from_residual.ensures.1 in
    rw (p.1, p.2, c.in_err-tried.was)

pub returns : goal.returns
unfolding bind
returns c delta lambda next = rw c.in_ok-tried.was
