-- `householder_step` meets its contract: the definition's steps, from what each call gives.
use Rattle.std.proofs.lemmas.Result.{err_from_is_err_and}
use Rattle.linear.specs.Householder.{reflect_with, householder_step}
use Rattle.linear.proofs.householder.householder_step.Goals as goal

pub returns : goal.returns
unfolding householder_step
returns c = rw (← c.tail.ensures, ← c.norm_of.ensures, c.in_ok-length.was) c.reflect_with.ensures

pub returns-in_err-length : goal.returns-in_err-length
unfolding householder_step reflect_with
returns-in_err-length c =
    let p = err_from_is_err_and c.from_residual.result c.from_residual.ensures.1 in
    rw (p.1, p.2, ← c.tail.ensures, ← c.norm_of.ensures, c.in_err-length.was)
