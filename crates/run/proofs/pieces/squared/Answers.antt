-- `squared` meets its contract: where the checks passed the counts fit.
use mathlib.Core.Path.{ap, ◌∙◌}
use Rattle.interval.specs.Result.{ok}
use Rattle.run.specs.Rows.{rows_in}
use Rattle.run.specs.Residuals.{squared_of}
use Rattle.run.specs.Pieces.{squared_reply}
use Rattle.run.proofs.RowLaws.{sum_small}
use Rattle.run.proofs.PieceLaws.{finished, fits_passed}
use Rattle.std.proofs.lemmas.Result.{err_from_is_err_and}
use Rattle.run.proofs.pieces.squared.Goals as goal

pub returns-in_err-fits : goal.returns-in_err-fits
unfolding squared_reply
returns-in_err-fits c =
    let p = err_from_is_err_and c.from_residual.result c.from_residual.ensures.1 in
    rw (
      p.1,
      p.2,
      ← c.variables_read.ensures,
      ← c.fits.ensures,
      c.in_err-fits.was,
    )

pub sum-requires : goal.sum-requires
sum-requires c =
    let z = (fits_passed (finished c.in_ok-fits.was) c.fits.ensures).sized in
    z.counts

pub squared-requires : goal.squared-requires
squared-requires c =
    let z = (fits_passed (finished c.in_ok-fits.was)
    c.fits.ensures).sized in
    rw c.sum.ensures (sum_small z.counts)

pub returns : goal.returns
unfolding squared_reply
returns c =
    let a = c.args in
    rw (
      ← c.variables_read.ensures,
      ← c.fits.ensures,
      c.in_ok-fits.was,
    )
    (ap ok (c.squared.ensures ∙ ap (λ e. squared_of (rows_in a.xs.now e) a.delta.now a.d)
    c.sum.ensures))
