-- `projections` meets its contract: the slice starts with the products stored so far, and is else as it was.
use borrow.Author.Rules.{rules}
use mathlib.Core.Path.{sym, ◌∙◌}
use Prim.Native.Nat.{ℕ}
use native.Mathlib.Omega.{arith}
use Rattle.interval.specs.declared.Scalar.{Scalar}
use Rattle.linear.specs.Dot.{dot_to}
use Rattle.linear.proofs.Lists.{list_to-none, list_to-more}
use Rattle.run.specs.Vectors.{row}
use Rattle.run.proofs.basis.projections.Goals as goal

pub loop-j-init : goal.loop-j-init
loop-j-init c = (search rules, search rules, sym (list_to-none _ _))

pub loop-j-preserved : goal.loop-j-preserved
loop-j-preserved c =
    let a = c.args in
    let f : ℕ → Scalar = λ t. dot_to (row a.wide.now a.i) (row a.q.now t) a.k in
    let e = rw (
      c.loop-j.invariant.2,
      c.row_dot.ensures,
    ) at c.put.ensures in (
      search rules,
      search rules,
      e
          ∙ list_to-more f c.loop-j.j a.b.now
          (omega (arith, c.requires.1.1, c.loop-j-test.true)),
    )
