-- `reflect` meets its contract: the quotient decides, and each arm is the definition's.
use lib.Ieee.{of_bits}
use Rattle.std.proofs.lemmas.Result.{err_from_is_err_and}
use Rattle.linear.proofs.Sums.{along_start}
use Rattle.linear.proofs.Reflections.{reflect_ok, reflect_refused}
use Rattle.linear.proofs.householder.reflect.Goals as goal

pub returns : goal.returns
unfolding of_bits
returns c =
    let q = rw c.in_ok-q.was at c.div.ensures.value in
    reflect_ok _ _ _ _ _ (rw along_start at c.row_dot-s.ensures) c.mul.ensures.value q c.minus_scaled.ensures

pub returns-in_err-q : goal.returns-in_err-q
unfolding of_bits
returns-in_err-q c =
    let p = err_from_is_err_and c.from_residual.result c.from_residual.ensures.1 in
    let q = rw c.in_err-q.was at c.div.ensures.value in
    rw (p.1, p.2) (reflect_refused _ _ _ _ _ (rw along_start at c.row_dot-s.ensures) c.mul.ensures.value q)
