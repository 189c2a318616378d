-- `moving` meets its contract: where the checks passed the counts fit, and the marks so far are those found.
use mathlib.Core.Path.{◌≡◌}
use native.Mathlib.Omega.{arith}
use lib.ListN.{length}
use Rattle.run.specs.Pieces.{moving_reply}
use Rattle.run.proofs.PieceLaws.{finished, sized_passed, wants_passed}
use Rattle.std.proofs.lemmas.Result.{err_from_is_err_and}
use borrow.Author.Rules.{rules}
use Rattle.run.proofs.pieces.moving.Goals as goal

pub returns-in_err-wants : goal.returns-in_err-wants
unfolding moving_reply
returns-in_err-wants c =
    let p = err_from_is_err_and c.from_residual.result c.from_residual.ensures.1 in
    rw (p.1, p.2, ← c.sized.ensures, ← c.wants.ensures, c.in_err-wants.was)

pub moving-requires : goal.moving-requires
moving-requires c =
    let p = wants_passed _ _ _ (finished c.in_ok-wants.was) c.wants.ensures in
    let z = sized_passed p.0 c.sized.ensures in
    z.counts

pub returns : goal.returns
unfolding moving_reply
returns c =
    rw (← c.sized.ensures, ← c.wants.ensures, c.in_ok-wants.was, c.copy_from_slice.ensures.after, c.moving.ensures)

pub copy_from_slice-requires : goal.copy_from_slice-requires
copy_from_slice-requires c =
    let p = wants_passed _ _ _ (finished c.in_ok-wants.was) c.wants.ensures in
    let size : length c.moving.result ≡ 12 = search rules in
    omega (arith, p.1, size)
