-- `take_longest` meets its contract: the root decides, then the test on the length, and each arm is the definition's.
use Rattle.std.proofs.lemmas.Result.{err_from_is_err_and}
use mathlib.Core.List.{List}
use mathlib.Core.Path.{◌≡◌}
use Prim.Native.Nat.{ℕ, suc, ◌≤◌, ◌+◌, ◌-◌, ◌<◌}
use native.Mathlib.Omega.{arith}
use lib.Ieee.{Float, of_bits}
use Rattle.run.specs.declared.null_space.Remainder.{Remainder}
use Rattle.run.specs.program.NullSpace.{longest_in}
use Rattle.run.proofs.NullSpaceLaws.{longest_place, longest_root, longest_low, turn_refused, turn_last, turn_on}
use Rattle.run.proofs.NullSpaceLaws.{turn_full}
use Rattle.run.proofs.null_space.take_longest.Goals as goal

-- the longest remainder's place
near : (k : ℕ) (left : List Float) {best : Remainder} → k ≤ 12 → best ≡ longest_in k left (k - 1) → best.place < 12
near k left h e = omega (arith, h, longest_place _ _ _ e, longest_low k left (k - 1))

after : (most count : ℕ) → count < most → most - count ≡ suc (most - (count + 1))
after most count h = omega (arith, h)

pub overflow_mul-best : goal.overflow_mul-best
overflow_mul-best c = omega (arith, near c.args.k c.args.left.now c.requires.0 c.longest-best.ensures)

pub unit-requires : goal.unit-requires
unit-requires c = (
  omega (arith, near c.args.k c.args.left.now c.requires.0 c.longest-best.ensures),
  (
    omega (
      arith,
      c.requires,
    ),
    omega (
      arith,
      c.requires,
    ),
  ),
)

pub returns-then-not-definitely_greater : goal.returns-then-not-definitely_greater
unfolding of_bits
returns-then-not-definitely_greater c =
    let b = c.longest-best.ensures in
    let r = rw c.in_ok-sqrt.was at c.sqrt.ensures.value in
    turn_last _ _
    (after c.args.most c.args.count c.requires.1.0)
    (longest_place _ _ _ b) (longest_root _ _ _ b r) c.sharpen-length.ensures
    c.definitely_greater.ensures c.if-not-definitely_greater.true

pub returns-in_err-sqrt : goal.returns-in_err-sqrt
returns-in_err-sqrt c =
    let b = c.longest-best.ensures in
    let r = rw c.in_err-sqrt.was at c.sqrt.ensures.value in
    let p = err_from_is_err_and c.from_residual.result c.from_residual.ensures.1 in
    rw (p.1, p.2)
    (turn_refused _ _ (after c.args.most c.args.count c.requires.1.0) (longest_place _ _ _ b) (longest_root _ _ _ b r))

pub returns-then-count-most : goal.returns-then-count-most
unfolding of_bits
returns-then-count-most c =
    let b = c.longest-best.ensures in
    let r = rw c.in_ok-sqrt.was at c.sqrt.ensures.value in
    turn_on _ _
    (after c.args.most c.args.count c.requires.1.0) (longest_place _ _ _ b) (longest_root _ _ _ b r)
    c.sharpen-length.ensures c.definitely_greater.ensures c.if-not-definitely_greater.false c.unit.ensures
    c.without.ensures

pub returns-else-count-most : goal.returns-else-count-most
unfolding of_bits
returns-else-count-most c =
    let b = c.longest-best.ensures in
    let r = rw c.in_ok-sqrt.was at c.sqrt.ensures.value in
    turn_full _ _
    (after c.args.most c.args.count c.requires.1.0) (longest_place _ _ _ b) (longest_root _ _ _ b r)
    c.sharpen-length.ensures c.definitely_greater.ensures c.if-not-definitely_greater.false c.unit.ensures _
    (omega (arith, c.if-count-most.false))
