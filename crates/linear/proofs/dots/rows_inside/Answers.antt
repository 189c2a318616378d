-- `rows_inside` meets its contract: the bounds are those of the difference so far, and proper, and each place is
-- inside.
use mathlib.Core.Path.{◌≡◌, refl, ap, ◌∙◌}
use Prim.Native.Nat.{ℕ, ◌+◌, ◌*◌}
use native.Mathlib.Nat.{le_antisymm}
use native.Mathlib.Omega.{arith}
use borrow.Author.Rules.{rules}
use Rattle.linear.specs.Flat.{at, along}
use Rattle.linear.specs.Dot.{minus_to}
use Rattle.linear.proofs.Sums.{minus_to-more}
use Rattle.linear.proofs.BoundLaws.{bounds_back, proper_bounds, bounding}
use Rattle.linear.proofs.dots.rows_inside.Goals as goal

pub loop-t-init : goal.loop-t-init
unfolding minus_to
loop-t-init c =
    (search rules, proper_bounds c.args.z c.bounds_of-sum.ensures c.requires.start)

pub loop-t-preserved : goal.loop-t-preserved
unfolding along
loop-t-preserved c =
    let l = c.loop-t in
    let a = c.args in
    let one : l.t ≡ l.t * 1 = omega arith in
    let x = c.at_inside.ensures ∙ ap (λ (p : ℕ). at a.l.now (a.i0 + p)) one in
    let y = c.at_inside-in-loop-t.ensures ∙ ap (λ (p : ℕ). at a.l.now (a.j0 + p)) one in (
      search rules,
      bounding (minus_to-more _ _ _ l.t (bounds_back l.invariant.1.value) x y refl refl) c.minus_fresh-sum.ensures,
    )

pub returns : goal.returns
returns c =
    let l = c.loop-t in
    rw
    (le_antisymm l.invariant.0 c.loop-t-test.false, bounds_back c.bounds_of-sum.ensures)
    at (c.scalar_of.ensures ∙ bounds_back l.invariant.1.value)
