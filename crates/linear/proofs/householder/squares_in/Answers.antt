-- `squares_in` meets its contract: both folds start at what the calls before them wrote, and a refusal leaves the
-- output clear.
use mathlib.Core.Path.{◌≡◌}
use Prim.Native.Nat.{◌*◌}
use native.Mathlib.Omega.{arith}
use lib.ListN.{length}
use Rattle.std.proofs.lemmas.Result.{err_from_is_err_and}
use Rattle.linear.specs.Results.{bind}
use Rattle.linear.specs.Householder.{least_squares_of}
use Rattle.linear.proofs.householder.squares_in.Goals as goal

pub returns : goal.returns
unfolding least_squares_of bind
returns c =
    let marks = rw c.requires.2 at (c.fill.ensures.after (λ _ e. e)) in
    let f = rw (c.columns.ensures, marks, c.min-k.ensures, c.in_ok-reflections.was) at c.reflections.ensures in
    let blank = rw c.requires.0.values at c.clear.ensures in
    let v = c.values in
    let e = rw (blank, c.min-k.ensures) at v.ensures in
    let size : length v.new.y ≡ 2 * c.args.r = omega (arith, c.requires, v.auto, c.clear.auto) in
    rw (← f, ← e) (rw size at c.cleared.ensures)

pub returns-in_err-reflections : goal.returns-in_err-reflections
unfolding least_squares_of bind
returns-in_err-reflections c =
    let p = err_from_is_err_and c.from_residual.result c.from_residual.ensures.1 in
    let marks = rw c.requires.2 at (c.fill.ensures.after (λ _ e. e)) in
    let f = rw (c.columns.ensures, marks, c.min-k.ensures, c.in_err-reflections.was) at c.reflections.ensures in
    let blank = rw c.requires.0.values at c.clear.ensures in
    rw (p.1, p.2, ← f, blank)
