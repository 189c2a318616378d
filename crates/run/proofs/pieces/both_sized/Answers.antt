-- `both_sized` meets its contract: the checks one after the other.
use Rattle.std.proofs.lemmas.Result.{err_from_is_err_and}
use borrow.Author.Tests.{le-leb, lt-leb}
use Rattle.linear.specs.Results.{bind}
use Rattle.run.specs.Pieces.{both_sized}
use Rattle.run.proofs.pieces.both_sized.Goals as goal

pub returns-then-m-gt-CONSTRAINTS : goal.returns-then-m-gt-CONSTRAINTS
unfolding both_sized
returns-then-m-gt-CONSTRAINTS c = rw (lt-leb _ _ c.if-m-gt-CONSTRAINTS.true)

pub returns-in_err-sized : goal.returns-in_err-sized
unfolding both_sized bind
returns-in_err-sized c =
    let p = err_from_is_err_and c.from_residual.result c.from_residual.ensures.1 in
    rw (p.1, p.2, le-leb _ _ c.if-m-gt-CONSTRAINTS.false, ← c.sized.ensures, c.in_err-sized.was)

pub returns : goal.returns
unfolding both_sized bind
returns c =
    rw (
      le-leb _ _ c.if-m-gt-CONSTRAINTS.false,
      ← c.sized.ensures,
      c.in_ok-sized.was,
    ) c.sized-2.ensures
