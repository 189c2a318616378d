-- `wants` meets its contract: each arm is the definition's.
use Rattle.std.proofs.lemmas.Result.{err_from_is_err_and}
use borrow.Author.Tests.{eq-eqb, ne_eqb}
use Rattle.linear.specs.Results.{bind}
use Rattle.run.specs.Pieces.{wants_of}
use Rattle.run.proofs.pieces.wants.Goals as goal

pub returns-in_err-before : goal.returns-in_err-before
unfolding wants_of bind
returns-in_err-before c =
    let p = err_from_is_err_and c.from_residual.result c.from_residual.ensures.1 in
    rw (p.1, p.2, c.in_err-before.was)

pub returns-then-count-wanted : goal.returns-then-count-wanted
unfolding wants_of bind
returns-then-count-wanted c = rw (c.in_ok-before.was, ne_eqb _ _ c.if-count-wanted.true)

pub returns : goal.returns
unfolding wants_of bind
returns c = rw (c.in_ok-before.was, eq-eqb _ _ c.if-count-wanted.false)
