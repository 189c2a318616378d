-- `remainders` meets its contract: the slice is the definition's, of the directions so far, an even number of them, and
-- at the end of one more where k is odd.
use mathlib.Core.Path.{◌≡◌, ◌∙◌}
use Prim.Native.Nat.{◌+◌, ◌*◌, ◌/◌}
use native.Mathlib.Omega.{arith}
use borrow.Author.Rules.{rules}
use lib.Ieee.{of_bits}
use Rattle.run.specs.NullSpace.{remainders_to}
use Rattle.run.proofs.NullSpaceLaws.{remainders_turn}
use Rattle.run.proofs.TwoRows.{two_remainders}
use Rattle.run.proofs.null_space.remainders.Goals as goal

pub loop-h-init : goal.loop-h-init
unfolding remainders_to
loop-h-init c = (search rules, search rules, c.requires.1.1)

pub loop-h-preserved : goal.loop-h-preserved
unfolding of_bits
loop-h-preserved c =
    let l = c.loop-h in (
      search rules,
      search rules,
      two_remainders c.args.k c.args.r c.args.q.now l.h c.requires.0
          l.invariant.2 c.put.ensures c.put-in-loop-h.ensures
          c.two_left_after.ensures,
    )

pub returns : goal.returns
unfolding of_bits
returns c =
    let a = c.args in
    let l = c.loop-h in
    let e : 2 * l.h ≡ 2 * (a.k / 2) = omega
    (arith, l.invariant.0, c.loop-h-test.false) in
    let n : 2 * (a.k / 2) + 1 ≡ a.k = omega
    (arith, c.if-half-k.false) in
    (rw c.put-2.ensures at c.left_after.ensures)
    ∙ (rw n at (remainders_turn _ _ _ (2 * (a.k / 2)) (rw e at l.invariant.2)))
