-- `plus_points_inside` meets its contract: the bounds are those of the sum so far, and proper, all pairs so far are
-- points, and each place is inside.
use Rattle.std.proofs.Common.{ap, not}
use mathlib.Core.Path.{◌≡◌, refl, sym, ◌∙◌, subst}
use Prim.Native.Nat.{ℕ}
use native.Mathlib.Nat.{le_antisymm}
use borrow.Author.Rules.{rules}
use Rattle.linear.specs.Bounds.{scalar_of, Bounding}
use Rattle.linear.specs.Flat.{along, scalars_at}
use Rattle.linear.specs.Dot.{plus_to}
use Rattle.linear.proofs.Sums.{plus_to-more, points_start, points_all, points_on, points_end}
use Rattle.linear.proofs.BoundLaws.{bounds_back, start_bounds, bounding}
use Rattle.linear.proofs.dots.plus_points_inside.Goals as goal

pub loop-t-init : goal.loop-t-init
unfolding plus_to
loop-t-init c = (
  search rules,
  points_start _ _ _,
  start_bounds c.args.z c.requires.start,
)

pub returns-then-not-are_points : goal.returns-then-not-are_points
unfolding along
returns-then-not-are_points c =
    let l = c.loop-t in
    let e = points_end _ _ l.t _ c.loop-t-test.true
    c.at_inside-x.ensures c.at_inside-y.ensures
    c.are_points.ensures (ap not c.if-not-are_points.true) in
    (e ∙ l.invariant.1, l.invariant.2)

pub loop-t-preserved : goal.loop-t-preserved
unfolding along
loop-t-preserved c =
    let l = c.loop-t in
    let x = c.at_inside-x.ensures in
    let y = c.at_inside-y.ensures in
    let e = points_on _ _ l.t _ c.loop-t-test.true x y
    c.are_points.ensures (ap not c.if-not-are_points.false) in (
      search rules,
      sym e ∙ l.invariant.1,
      bounding (plus_to-more _ _ _ l.t (bounds_back l.invariant.2.value) x y refl refl) c.plus_points-sum.ensures,
    )

pub returns : goal.returns
returns c =
    let l = c.loop-t in
    let a = c.args in
    let e : l.t ≡ a.k = le_antisymm l.invariant.0 c.loop-t-test.false in (
      sym e ∙ points_all _ _ l.t a.k l.invariant.0 c.loop-t-test.false ∙ l.invariant.1,
      subst (λ (n : ℕ). Bounding (plus_to (scalars_at a.a.now a.i) (scalars_at a.b.now a.j)
          (scalar_of a.z) n) l.sum) e l.invariant.2,
    )
