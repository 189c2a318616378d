-- `gram_factor` meets its contract: each check decides one of the definition's.
use native.Mathlib.Omega.{arith}
use borrow.Author.Tests.{le-leb, lt-leb, eq-eqb, ne_eqb}
use Prim.Native.Nat.{◌*◌}
use mathlib.Core.Path.{◌≡◌}
use lib.ListN.{length}
use Rattle.linear.specs.Calls.{blank, gram_factor_reply}
use Rattle.linear.specs.Solved.{gram_factor_of}
use Rattle.linear.proofs.Replied.{replied_beside}
use Rattle.linear.proofs.solved.gram_factor.Goals as goal

pub returns-then-m-gt24 : goal.returns-then-m-gt24
unfolding gram_factor_reply
returns-then-m-gt24 c = rw (lt-leb _ _ c.if-m-gt24.true)

pub returns-then-n-gt24 : goal.returns-then-n-gt24
unfolding gram_factor_reply
returns-then-n-gt24 c = rw (le-leb _ _ c.if-m-gt24.false, lt-leb _ _ c.if-n-gt24.true)

pub returns-then-jc-m : goal.returns-then-jc-m
unfolding gram_factor_reply
returns-then-jc-m c =
    rw (
      le-leb _ _ c.if-m-gt24.false,
      le-leb _ _ c.if-n-gt24.false,
      ne_eqb _ _ c.if-jc-m.true,
    )

pub returns-then-g-m : goal.returns-then-g-m
unfolding gram_factor_reply
returns-then-g-m c =
    rw (
      le-leb _ _ c.if-m-gt24.false,
      le-leb _ _ c.if-n-gt24.false,
      eq-eqb _ _ c.if-jc-m.false,
      ne_eqb _ _ c.if-g-m.true,
    )

pub returns-then-l-m : goal.returns-then-l-m
unfolding gram_factor_reply
returns-then-l-m c =
    rw (
      le-leb _ _ c.if-m-gt24.false,
      le-leb _ _ c.if-n-gt24.false,
      eq-eqb _ _ c.if-jc-m.false,
      eq-eqb _ _ c.if-g-m.false,
      ne_eqb _ _ c.if-l-m.true,
    )

pub returns-then-left_out-m : goal.returns-then-left_out-m
unfolding gram_factor_reply
returns-then-left_out-m c =
    rw (
      le-leb _ _ c.if-m-gt24.false,
      le-leb _ _ c.if-n-gt24.false,
      eq-eqb _ _ c.if-jc-m.false,
      eq-eqb _ _ c.if-g-m.false,
      eq-eqb _ _ c.if-l-m.false,
      ne_eqb _ _ c.if-left_out-m.true,
    )

pub returns : goal.returns
unfolding gram_factor_reply
returns c =
    let a = c.args in
    let m = a.m in
    let size : length c.gram_factor_sized-d.new.g ≡ 2 * (m * m) =
    omega (arith, c.gram_factor_sized-d.auto, c.if-g-m.false) in
    rw (
      le-leb _ _ c.if-m-gt24.false,
      le-leb _ _ c.if-n-gt24.false,
      eq-eqb _ _ c.if-jc-m.false,
      eq-eqb _ _ c.if-g-m.false,
      eq-eqb _ _ c.if-l-m.false,
      eq-eqb _ _ c.if-left_out-m.false,
      rw size at c.clear.ensures,
    ) (replied_beside _ (blank m) c.gram_factor_sized-d.result (gram_factor_of m a.n a.jc.now)
    c.gram_factor_sized-d.ensures)
