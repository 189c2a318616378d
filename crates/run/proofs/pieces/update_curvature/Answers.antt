-- `update_curvature` meets its contract: where the checks passed the counts and lengths fit.
use mathlib.Core.Path.{◌≡◌}
use native.Mathlib.Omega.{arith}
use lib.ListN.{length}
use Rattle.run.specs.Pieces.{update_reply}
use Rattle.run.proofs.PieceLaws.{finished, both_passed, wants_passed}
use Rattle.std.proofs.lemmas.Result.{err_from_is_err_and}
use Rattle.run.proofs.pieces.update_curvature.Goals as goal

pub returns-in_err-wants : goal.returns-in_err-wants
unfolding update_reply
returns-in_err-wants c =
    let p = err_from_is_err_and c.from_residual.result c.from_residual.ensures.1 in
    rw (
      p.1,
      p.2,
      ← c.both_sized.ensures,
      ← c.wants-rows.ensures,
      ← c.wants.ensures,
      ← c.wants-2.ensures,
      c.in_err-wants.was,
    )

pub update_curvature-requires : goal.update_curvature-requires
update_curvature-requires c =
    let p = wants_passed _ _ _ (finished c.in_ok-wants.was)
    c.wants-2.ensures in
    let q = wants_passed _ _ _ p.0 c.wants.ensures in
    let r = wants_passed _ _ _ q.0 c.wants-rows.ensures in
    let z = both_passed r.0 c.both_sized.ensures in
    (z.first.counts, z.second.counts, omega (arith, q.1, z.first.counts.few_variables))

pub returns : goal.returns
unfolding update_reply
returns c =
    let p = wants_passed _ _ _ (finished c.in_ok-wants.was) c.wants-2.ensures in
    let q = wants_passed _ _ _ p.0 c.wants.ensures in
    let r = wants_passed _ _ _ q.0 c.wants-rows.ensures in
    let k = c.update_curvature in
    let size : length k.new.b ≡ 288 = omega (arith, k.auto, r.1) in
    rw (
      ← c.both_sized.ensures,
      ← c.wants-rows.ensures,
      ← c.wants.ensures,
      ← c.wants-2.ensures,
      c.in_ok-wants.was,
      ← k.ensures,
    )
    (rw size at c.cleared.ensures)
