-- `shift` meets its contract: where the checks passed the counts and lengths fit.
use mathlib.Core.Path.{◌≡◌}
use native.Mathlib.Omega.{arith}
use lib.ListN.{length}
use Rattle.run.specs.Pieces.{shift_reply}
use Rattle.run.proofs.PieceLaws.{finished, fits_passed}
use Rattle.std.proofs.lemmas.Result.{err_from_is_err_and}
use Rattle.run.proofs.pieces.shift.Goals as goal

pub returns-in_err-fits : goal.returns-in_err-fits
unfolding shift_reply
returns-in_err-fits c =
    let p = err_from_is_err_and c.from_residual.result c.from_residual.ensures.1 in
    rw (p.1, p.2, ← c.fits.ensures, c.in_err-fits.was)

pub shift-requires : goal.shift-requires
shift-requires c =
    let p = fits_passed (finished c.in_ok-fits.was) c.fits.ensures in
    let z = p.sized.counts in
    (record { few = z; marks = p.first }, p.second)

pub returns : goal.returns
unfolding shift_reply
returns c =
    let p = fits_passed
    (finished c.in_ok-fits.was)
    c.fits.ensures in
    let k = c.shift in
    let size : length k.new.d ≡ 24 = omega (arith, k.auto, p.second) in
    rw (
      ← c.fits.ensures,
      c.in_ok-fits.was,
      ← k.ensures,
    )
    (rw size at c.cleared.ensures)
