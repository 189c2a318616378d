-- `h_times_row` meets its contract: the row holds the products so far, an even number of them, and at the end one more
-- where k is odd.
use mathlib.Core.Path.{◌≡◌, ◌∙◌}
use Prim.Native.Nat.{◌+◌, ◌*◌, ◌/◌}
use native.Mathlib.Omega.{arith}
use borrow.Author.Rules.{rules}
use Rattle.run.specs.Vectors.{fill_to}
use Rattle.run.proofs.TwoRows.{fill_two}
use Rattle.run.proofs.VectorLaws.{fill_turn}
use Rattle.run.proofs.reduced.h_times_row.Goals as goal

pub loop-p-init : goal.loop-p-init
unfolding fill_to
loop-p-init c = search rules

pub loop-p-preserved : goal.loop-p-preserved
loop-p-preserved c =
    let l = c.loop-p in
    (search rules, search rules, fill_two _ _ _ l.p l.invariant.2 c.two_h_times.ensures)

pub returns-then-half-k : goal.returns-then-half-k
returns-then-half-k c =
    let l = c.loop-p in
    let e : 2 * l.p ≡ c.args.k = omega
    (arith, l.invariant.0, c.loop-p-test.false, c.if-half-k.true) in
    rw e at l.invariant.2

pub returns : goal.returns
returns c =
    let a = c.args in
    let l = c.loop-p in
    let e : 2 * l.p ≡ 2 * (a.k / 2) = omega
    (arith, l.invariant.0, c.loop-p-test.false) in
    let n : 2 * (a.k / 2) + 1 ≡ a.k = omega (arith, c.if-half-k.false) in
    c.put.ensures ∙ (rw n at (fill_turn _ _ _ (2 * (a.k / 2)) (rw e at l.invariant.2)
    c.h_times_at.ensures))
