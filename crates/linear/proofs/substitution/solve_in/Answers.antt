-- `solve_in` meets its contract: both folds start at clear lists, and a refusal leaves the output clear.
use mathlib.Core.Path.{◌≡◌}
use Prim.Native.Nat.{◌*◌}
use native.Mathlib.Omega.{arith}
use lib.ListN.{length}
use Rattle.std.proofs.lemmas.Result.{err_from_is_err_and}
use Rattle.linear.specs.Results.{bind}
use Rattle.linear.specs.Substitution.{solve_of}
use Rattle.linear.proofs.substitution.solve_in.Goals as goal

pub returns : goal.returns
unfolding solve_of bind
returns c =
    let ex = rw c.requires.0.values at c.clear.ensures in
    let ey = rw c.requires.2 at c.clear-2.ensures in
    let forward = rw (c.in_ok-forward.was, ey) at c.forward.ensures in
    let back = rw ex at c.back.ensures in
    let size : length c.back.new.x ≡ 2 * c.args.n = omega (arith, c.back.auto, c.clear.auto) in
    rw (← forward, ← back) (rw size at c.cleared.ensures)

pub returns-in_err-forward : goal.returns-in_err-forward
unfolding solve_of bind
returns-in_err-forward c =
    let ex = rw c.requires.0.values at c.clear.ensures in
    let ey = rw c.requires.2 at c.clear-2.ensures in
    let forward = rw (c.in_err-forward.was, ey) at c.forward.ensures in
    let p = err_from_is_err_and c.from_residual.result c.from_residual.ensures.1 in
    rw (p.1, p.2, ← forward, ex)
