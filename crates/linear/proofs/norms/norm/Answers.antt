-- `norm` meets its contract: each check decides one of the definition's.
use borrow.Author.Tests.{le-leb, lt-leb, eq-eqb, ne_eqb}
use Rattle.std.proofs.lemmas.Result.{err_from_is_err_and}
use Rattle.linear.specs.Calls.{norm_reply}
use Rattle.linear.proofs.norms.norm.Goals as goal

pub returns-then-n-gt24 : goal.returns-then-n-gt24
unfolding norm_reply
returns-then-n-gt24 c = rw (lt-leb _ _ c.if-n-gt24.true)

pub returns-then-v-n : goal.returns-then-v-n
unfolding norm_reply
returns-then-v-n c = rw (le-leb _ _ c.if-n-gt24.false, ne_eqb _ _ c.if-v-n.true)

pub returns : goal.returns
unfolding norm_reply
returns c = rw (le-leb _ _ c.if-n-gt24.false, eq-eqb _ _ c.if-v-n.false)
    (rw c.in_ok-norm_of.was at c.norm_of.ensures)

pub returns-in_err-norm_of : goal.returns-in_err-norm_of
unfolding norm_reply
returns-in_err-norm_of c =
    let p = err_from_is_err_and c.from_residual.result c.from_residual.ensures.1 in
    rw (p.1, p.2, le-leb _ _ c.if-n-gt24.false, eq-eqb _ _ c.if-v-n.false)
    (rw c.in_err-norm_of.was at c.norm_of.ensures)
