-- `update_factored` meets its contract: the update from the step along the constraints, or the refusal.
use Rattle.std.proofs.lemmas.Result.{err_from_is_err_and}
use Rattle.run.proofs.CurvatureLaws.{handed_on, went_on}
use Rattle.run.proofs.Prefixes.{front_kept}
use Rattle.run.proofs.RowLaws.{short}
use Rattle.run.proofs.curvature.update_factored.Goals as goal

pub returns-in_err-along_factored : goal.returns-in_err-along_factored
returns-in_err-along_factored c xs f =
    let p = err_from_is_err_and c.from_residual.result c.from_residual.ensures.1 in
    rw (p.1, p.2) (handed_on _ c.args.b.now _ c.in_err-along_factored.was (c.along_factored.ensures xs f))

pub returns : goal.returns
returns c xs f =
    let k = c.along_factored in
    let front = front_kept _ k.new.out _
    (short c.requires.few.few_variables) k.auto.out in
    went_on _ c.in_ok-along_factored.was (k.ensures xs f) front
    (c.updated.ensures xs f)
