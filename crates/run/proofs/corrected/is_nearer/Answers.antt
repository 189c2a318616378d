-- `is_nearer` meets its contract: both violations decide, or one is refused.
use mathlib.Core.Path.{sym, ap, ◌∙◌}
use Rattle.std.proofs.lemmas.Result.{err_from_is_err_and}
use Rattle.interval.specs.Result.{ok}
use Rattle.linear.specs.LinearResult.{result_of}
use Rattle.linear.proofs.Folds.{bind_ok, bind_refused}
use Rattle.run.proofs.corrected.is_nearer.Goals as goal

pub returns : goal.returns
returns c =
    ap ok c.definitely_less.ensures
    ∙ sym (bind_ok _ (ap result_of c.in_ok-new.was) ∙ bind_ok _ (ap result_of c.in_ok-old.was))

pub returns-in_err-old : goal.returns-in_err-old
returns-in_err-old c =
    let p = err_from_is_err_and c.from_residual-in_err-old.result c.from_residual-in_err-old.ensures.1 in
    rw (p.1, p.2) (sym (bind_ok _ (ap result_of c.in_ok-new.was) ∙ bind_refused _ (ap result_of c.in_err-old.was)))

pub returns-in_err-new : goal.returns-in_err-new
returns-in_err-new c =
    let p = err_from_is_err_and c.from_residual.result c.from_residual.ensures.1 in
    rw (p.1, p.2) (sym (bind_refused _ (ap result_of c.in_err-new.was)))
