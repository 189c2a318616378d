-- `minus_factored` meets its contract: each check decides one of the definition's. Behind them stand the values by the
-- multipliers, which read no more of the array than its first 2 m numbers, and a clear output where those are refused.
use mathlib.Core.Path.{◌≡◌, sym, ◌∙◌}
use Prim.Native.Nat.{◌*◌, ◌≤◌}
use native.Mathlib.Omega.{arith}
use borrow.Author.Tests.{le-leb, lt-leb, eq-eqb, ne_eqb}
use lib.ListN.{length}
use Rattle.linear.specs.Calls.{minus_factored_reply}
use Rattle.linear.specs.Cholesky.{factor_of}
use Rattle.linear.proofs.SolvedLaws.{minus_factored, factored_reply}
use Rattle.linear.proofs.solved.minus_factored.Goals as goal

pub returns-then-m-gt24 : goal.returns-then-m-gt24
unfolding minus_factored_reply
returns-then-m-gt24 c = rw (lt-leb _ _ c.if-m-gt24.true)

pub returns-then-n-gt24 : goal.returns-then-n-gt24
unfolding minus_factored_reply
returns-then-n-gt24 c = rw (le-leb _ _ c.if-m-gt24.false, lt-leb _ _ c.if-n-gt24.true)

pub returns-then-jc-m : goal.returns-then-jc-m
unfolding minus_factored_reply
returns-then-jc-m c =
    rw (
      le-leb _ _ c.if-m-gt24.false,
      le-leb _ _ c.if-n-gt24.false,
      ne_eqb _ _ c.if-jc-m.true,
    )

pub returns-then-l-m : goal.returns-then-l-m
unfolding minus_factored_reply
returns-then-l-m c =
    rw (
      le-leb _ _ c.if-m-gt24.false,
      le-leb _ _ c.if-n-gt24.false,
      eq-eqb _ _ c.if-jc-m.false,
      ne_eqb _ _ c.if-l-m.true,
    )

pub returns-then-left_out-m : goal.returns-then-left_out-m
unfolding minus_factored_reply
returns-then-left_out-m c =
    rw (
      le-leb _ _ c.if-m-gt24.false,
      le-leb _ _ c.if-n-gt24.false,
      eq-eqb _ _ c.if-jc-m.false,
      eq-eqb _ _ c.if-l-m.false,
      ne_eqb _ _ c.if-left_out-m.true,
    )

pub returns-then-rhs-m : goal.returns-then-rhs-m
unfolding minus_factored_reply
returns-then-rhs-m c =
    rw (
      le-leb _ _ c.if-m-gt24.false,
      le-leb _ _ c.if-n-gt24.false,
      eq-eqb _ _ c.if-jc-m.false,
      eq-eqb _ _ c.if-l-m.false,
      eq-eqb _ _ c.if-left_out-m.false,
      ne_eqb _ _ c.if-rhs-m.true,
    )

pub returns-then-from-n : goal.returns-then-from-n
unfolding minus_factored_reply
returns-then-from-n c =
    rw (
      le-leb _ _ c.if-m-gt24.false,
      le-leb _ _ c.if-n-gt24.false,
      eq-eqb _ _ c.if-jc-m.false,
      eq-eqb _ _ c.if-l-m.false,
      eq-eqb _ _ c.if-left_out-m.false,
      eq-eqb _ _ c.if-rhs-m.false,
      ne_eqb _ _ c.if-from-n.true,
    )

pub returns-then-out-n : goal.returns-then-out-n
unfolding minus_factored_reply
returns-then-out-n c =
    rw (
      le-leb _ _ c.if-m-gt24.false,
      le-leb _ _ c.if-n-gt24.false,
      eq-eqb _ _ c.if-jc-m.false,
      eq-eqb _ _ c.if-l-m.false,
      eq-eqb _ _ c.if-left_out-m.false,
      eq-eqb _ _ c.if-rhs-m.false,
      eq-eqb _ _ c.if-from-n.false,
      ne_eqb _ _ c.if-out-n.true,
    )

pub returns : goal.returns
returns c =
    let a = c.args in
    let size : length c.minus.new.out ≡ 2 * a.n =
    omega (arith, c.minus.auto, c.if-out-n.false) in
    let few = c.if-m-gt24.false in
    let room : 2 * a.m ≤ length c.multipliers-d.new.k =
    omega (arith, c.multipliers-d.auto, few) in
    let e = minus_factored a.m a.n a.jc.now a.l.now a.left_out.now a.rhs.now a.from.now _
    c.multipliers-d.result room c.multipliers-d.ensures in
    (rw (size, c.minus.ensures, e) at c.cleared.ensures)
    ∙ sym (factored_reply a.m a.n a.jc.now (factor_of a.l.now a.left_out.now) a.rhs.now
    a.from.now a.out.now (record {
      rows = few;
      columns = c.if-n-gt24.false;
      slopes = c.if-jc-m.false;
      sides = c.if-rhs-m.false;
      start = c.if-from-n.false;
      values = c.if-out-n.false;
    }) c.if-l-m.false
    c.if-left_out-m.false)
