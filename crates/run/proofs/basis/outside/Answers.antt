-- `outside` meets its contract: an even number of places is filled so far, and at the end one more where k is odd.
use borrow.Author.Rules.{rules}
use mathlib.Core.Path.{◌≡◌, ◌∙◌}
use Prim.Native.Nat.{ℕ, ◌+◌, ◌*◌, ◌/◌}
use native.Mathlib.Omega.{arith}
use Rattle.interval.specs.declared.Scalar.{Scalar}
use Rattle.linear.specs.Dot.{minus_to}
use Rattle.linear.specs.Flat.{at}
use Rattle.linear.proofs.Sums.{along_start}
use Rattle.run.specs.Vectors.{column, entry, fill_to}
use Rattle.run.proofs.TwoRows.{fill_first_two}
use Rattle.run.proofs.VectorLaws.{fill_first}
use Rattle.run.proofs.basis.outside.Goals as goal

pub loop-h-init : goal.loop-h-init
unfolding fill_to
loop-h-init c = search rules

pub loop-h-preserved : goal.loop-h-preserved
loop-h-preserved c =
    let l = c.loop-h in
    (search rules, search rules, fill_first_two _ _ l.h l.invariant.2 c.two_outside.ensures)

pub returns : goal.returns
returns c =
    let l = c.loop-h in
    let a = c.args in
    let e : 2 * l.h ≡ 2 * (a.k / 2) = omega (
      arith,
      l.invariant.0,
      c.loop-h-test.false,
    ) in
    let n : 2 * (a.k / 2) + 1 ≡ a.k = omega (
      arith,
      c.if-half-k.false,
    ) in
    let f : ℕ → Scalar = λ j. minus_to (at a.a.now) (column a.q.now j) (entry a.wide.now a.i j) a.r in
    let d = c.minus_dot in
    let v : d.result ≡ f (2 * (a.k / 2)) = rw (
      c.in_row.ensures,
      c.in_column.ensures,
      along_start,
      c.at-z.ensures,
    ) at d.ensures in
    c.put.ensures ∙ (rw n at (fill_first a.out.now f (2 * (a.k / 2)) (rw e at l.invariant.2) v))
