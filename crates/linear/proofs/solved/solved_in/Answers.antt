-- `solved_in` meets its contract: the factor, then the values by it, whose checks all hold since the lengths are as
-- asked; its refusal clears the output.
use mathlib.Core.Path.{◌≡◌, sym, ap, ◌∙◌}
use Prim.Native.Nat.{◌*◌}
use native.Mathlib.Omega.{arith}
use lib.ListN.{length}
use Rattle.linear.specs.Cholesky.{factor_of}
use Rattle.linear.specs.Flat.{zeros}
use Rattle.linear.specs.Replies.{reply_of}
use Rattle.linear.proofs.Replied.{is_refused, is_done}
use Rattle.linear.proofs.SolvedLaws.{solved_by_factor, solved_refused, factor_done, factored_reply}
use Rattle.linear.proofs.solved.solved_in.Goals as goal

pub returns : goal.returns
returns c =
    let a = c.args in
    let k = c.gram_factor_sized-end in
    let f = factor_of k.new.l k.new.left_out in
    let end = is_done k.result c.if-is_err.ensures.value in
    let e = rw end.1 at (factor_done a.m a.n a.jc.now k.result f k.ensures) in
    let size : length k.new.l ≡ 2 * (a.m * a.m) = omega (arith, k.auto, c.requires.2) in
    let marks : length k.new.left_out ≡ a.m = omega (arith, k.auto, c.requires.2) in
    c.minus_factored.ensures
    ∙ factored_reply a.m a.n a.jc.now f a.rhs.now a.from.now a.out.now c.requires.0 size marks
    ∙ ap (reply_of (zeros (2 * a.n))) (sym (solved_by_factor a.m a.n a.jc.now a.rhs.now a.from.now f e))

pub returns-then-is_err : goal.returns-then-is_err
returns-then-is_err c =
    let a = c.args in
    let k = c.gram_factor_sized-end in
    let end = is_refused k.result c.if-is_err.ensures.value in
    let e = rw end.1 at (factor_done a.m a.n a.jc.now k.result (factor_of k.new.l k.new.left_out) k.ensures) in
    let size : length a.out.now ≡ 2 * a.n = c.requires.0.values in
    rw (end.1, c.clear.ensures, size, solved_refused a.m a.n a.jc.now a.rhs.now a.from.now _ e)
