-- `two_points_inside` meets its contract: the bounds are those of both sums so far, and each place is inside.
use mathlib.Core.Path.{sym, ◌∙◌}
use native.Mathlib.Nat.{le_refl, le_antisymm}
use native.Mathlib.Omega.{arith}
use borrow.Author.Rules.{rules}
use Rattle.linear.specs.Flat.{along}
use Rattle.linear.specs.Dot.{plus_to}
use Rattle.linear.proofs.Sums.{along_row}
use Rattle.linear.proofs.BoundLaws.{start_bounds}
use Rattle.linear.proofs.SumBounds.{plus_more}
use Rattle.linear.proofs.dots.two_points_inside.Goals as goal

pub loop-t-init : goal.loop-t-init
unfolding plus_to
loop-t-init c = (
  search rules,
  start_bounds c.args.y c.requires.first_start,
  start_bounds c.args.z c.requires.second_start,
)

pub overflow_add-b0 : goal.overflow_add-b0
overflow_add-b0 c = omega (
  arith,
  c.requires.row c.loop-t.t c.loop-t-test.true,
)

pub at_inside-w-requires : goal.at_inside-w-requires
at_inside-w-requires c = omega (
  arith,
  c.requires.row c.loop-t.t c.loop-t-test.true,
)

pub loop-t-preserved : goal.loop-t-preserved
unfolding along
loop-t-preserved c =
    let l = c.loop-t in
    let u = c.at_inside-u.ensures in
    let v = c.at_inside-v.ensures in
    let w = c.at_inside-w.ensures ∙ sym (along_row _ _ l.t) in (
      search rules,
      plus_more _ _ _ l.t l.invariant.1 u w c.plus_points-first.ensures,
      plus_more _ _ _ l.t l.invariant.2 v w c.plus_points-second.ensures,
    )

pub returns : goal.returns
returns c =
    let l = c.loop-t in
    let e = le_antisymm l.invariant.0 c.loop-t-test.false in
    (le_refl _, rw e at l.invariant.1, rw e at l.invariant.2)
