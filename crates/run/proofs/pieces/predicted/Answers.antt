-- `predicted` meets its contract: where the checks passed the counts fit.
use Rattle.run.proofs.pieces.predicted.Goals as goal
use Rattle.run.specs.Pieces.{predicted_reply}
use Rattle.run.proofs.PieceLaws.{finished, sized_passed, wants_passed}
use Rattle.std.proofs.lemmas.Result.{err_from_is_err_and}

pub returns-in_err-wants : goal.returns-in_err-wants
unfolding predicted_reply
returns-in_err-wants c =
    let p = err_from_is_err_and c.from_residual.result c.from_residual.ensures.1 in
    rw (
      p.1,
      p.2,
      ← c.sized.ensures,
      ← c.wants.ensures,
      c.in_err-wants.was,
    )

pub predicted-requires : goal.predicted-requires
predicted-requires c =
    let p = wants_passed _ _ _ (finished c.in_ok-wants.was) c.wants.ensures in
    let z = sized_passed p.0 c.sized.ensures in
    z.counts

pub returns : goal.returns
unfolding predicted_reply
returns c =
    rw (
      ← c.sized.ensures,
      ← c.wants.ensures,
      c.in_ok-wants.was,
    ) c.predicted.ensures
