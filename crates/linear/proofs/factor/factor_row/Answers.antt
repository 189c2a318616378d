-- `factor_row` meets its contract: the entries, then the pivot, or the entries' refusal.
use Rattle.std.proofs.lemmas.Result.{err_from_is_err_and}
use Rattle.linear.specs.Results.{bind}
use Rattle.linear.specs.CholeskyRows.{row_step}
use Rattle.linear.proofs.factor.factor_row.Goals as goal

pub returns : goal.returns
unfolding row_step bind
returns c =
    let e = rw c.in_ok-entries.was at c.entries.ensures in
    rw (← e) c.pivot_row.ensures

pub returns-in_err-entries : goal.returns-in_err-entries
unfolding row_step bind
returns-in_err-entries c =
    let p = err_from_is_err_and c.from_residual.result c.from_residual.ensures.1 in
    let e = rw c.in_err-entries.was at c.entries.ensures in
    rw (p.1, p.2, ← e)
