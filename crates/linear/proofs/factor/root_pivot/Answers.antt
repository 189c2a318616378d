-- `root_pivot` meets its contract: the definition's steps, from what each call gives.
use lib.Ieee.{of_bits}
use Rattle.std.proofs.lemmas.Result.{err_from_is_err_and}
use Rattle.linear.specs.Cholesky.{root_pivot}
use Rattle.linear.proofs.factor.root_pivot.Goals as goal

pub returns-then-is_usable : goal.returns-then-is_usable
unfolding root_pivot of_bits
returns-then-is_usable c =
    rw (c.in_ok-root.was, ← c.div.ensures.value, ← c.is_usable.ensures, c.if-is_usable.true)

pub returns : goal.returns
unfolding root_pivot of_bits
returns c = rw (c.in_ok-root.was, ← c.div.ensures.value, ← c.is_usable.ensures, c.if-is_usable.false)

pub returns-in_err-root : goal.returns-in_err-root
unfolding root_pivot
returns-in_err-root c =
    let p = err_from_is_err_and c.from_residual.result c.from_residual.ensures.1 in
    rw (p.1, p.2, c.in_err-root.was)
