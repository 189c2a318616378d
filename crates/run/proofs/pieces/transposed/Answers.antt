-- `transposed` meets its contract: where the checks passed the counts fit, and the places so far are filled.
use mathlib.Core.Path.{ap, ◌∙◌}
use native.Mathlib.Nat.{le_antisymm}
use native.Mathlib.Omega.{arith}
use Rattle.linear.specs.Flat.{zeros}
use Rattle.run.specs.Vectors.{fill_to}
use Rattle.run.specs.Rows.{rows_in}
use Rattle.run.specs.Residuals.{transposed_at}
use Rattle.run.specs.Pieces.{transposed_reply}
use Rattle.run.proofs.RowLaws.{sum_small}
use Rattle.run.proofs.VectorLaws.{fill_first}
use Rattle.run.proofs.PieceLaws.{finished, fits_passed}
use Rattle.std.proofs.lemmas.Result.{err_from_is_err_and}
use borrow.Author.Rules.{rules}
use Rattle.run.proofs.pieces.transposed.Goals as goal

pub returns-in_err-fits : goal.returns-in_err-fits
unfolding transposed_reply
returns-in_err-fits c =
    let p = err_from_is_err_and c.from_residual.result c.from_residual.ensures.1 in
    rw (p.1, p.2, ← c.fits.ensures, c.in_err-fits.was)

pub loop-j-init : goal.loop-j-init
unfolding fill_to
loop-j-init c =
    let p = fits_passed (finished c.in_ok-fits.was)
    c.fits.ensures in
    (search rules, search rules, c.clear.ensures ∙ ap zeros p.second)

pub sum-requires : goal.sum-requires
sum-requires c =
    let z = (fits_passed (finished c.in_ok-fits.was)
    c.fits.ensures).sized in
    z.counts

pub transposed_at-requires : goal.transposed_at-requires
transposed_at-requires c =
    let z = (fits_passed
    (finished c.in_ok-fits.was)
    c.fits.ensures).sized in (
      rw c.sum.ensures (sum_small z.counts),
      omega (arith, z.counts.few_variables, c.loop-j-test.true),
    )

pub loop-j-preserved : goal.loop-j-preserved
loop-j-preserved c =
    let l = c.loop-j in
    let a = c.args in (
      search rules,
      search rules,
      c.put.ensures
          ∙ fill_first _ _ l.j l.invariant.2 (c.transposed_at.ensures
          ∙ ap (λ e. transposed_at (rows_in a.xs.now e) a.w.now l.j)
          c.sum.ensures),
    )

pub returns : goal.returns
unfolding transposed_reply
returns c =
    let filled = rw (le_antisymm c.loop-j.invariant.0 c.loop-j-test.false) at c.loop-j.invariant.2 in
    rw (
      ← c.fits.ensures,
      c.in_ok-fits.was,
      filled,
    )
