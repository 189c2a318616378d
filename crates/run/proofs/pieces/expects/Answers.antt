-- `expects` meets its contract: where the checks passed the counts and lengths fit.
use Rattle.run.specs.Pieces.{expects_reply}
use Rattle.run.proofs.PieceLaws.{finished, fits_passed}
use Rattle.std.proofs.lemmas.Result.{err_from_is_err_and}
use Rattle.run.proofs.pieces.expects.Goals as goal

pub returns-in_err-fits : goal.returns-in_err-fits
unfolding expects_reply
returns-in_err-fits c =
    let p = err_from_is_err_and c.from_residual.result c.from_residual.ensures.1 in
    rw (p.1, p.2, ← c.fits.ensures, c.in_err-fits.was)

pub expects-requires : goal.expects-requires
expects-requires c =
    (fits_passed (finished c.in_ok-fits.was) c.fits.ensures).sized.counts

pub returns : goal.returns
unfolding expects_reply
returns c = rw (← c.fits.ensures, c.in_ok-fits.was) c.expects.ensures
