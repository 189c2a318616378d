-- `without` meets its contract: the slice is the definition's, of the remainders so far: an even number of them, and at
-- the end one more where k is odd.
use mathlib.Core.Path.{◌≡◌, ◌∙◌}
use native.Mathlib.Omega.{arith}
use Prim.Native.Nat.{◌+◌, ◌*◌, ◌/◌}
use borrow.Author.Rules.{rules}
use Rattle.run.specs.NullSpace.{without_to}
use Rattle.run.proofs.NullSpaceLaws.{without_turn}
use Rattle.run.proofs.TwoRows.{without_two}
use Rattle.run.proofs.null_space.without.Goals as goal

pub loop-h-init : goal.loop-h-init
unfolding without_to
loop-h-init c = search rules

pub loop-h-preserved : goal.loop-h-preserved
loop-h-preserved c =
    let l = c.loop-h in
    (search rules, search rules, without_two _ _ _ _ l.h l.invariant.2 c.two_parts_off.ensures)

pub returns : goal.returns
returns c =
    let a = c.args in
    let l = c.loop-h in
    let e : 2 * l.h ≡ 2 * (a.k / 2) = omega
    (arith, l.invariant.0, c.loop-h-test.false) in
    let n : 2 * (a.k / 2) + 1 ≡ a.k = omega (arith, c.if-half-k.false) in
    c.part_off.ensures ∙ (rw n at (without_turn _ _ _ _ (2 * (a.k / 2)) (rw e at l.invariant.2)))
