-- `pack` meets its contract: the slice starts with the entries stored so far, and is else as it was.
use borrow.Author.Rules.{rules}
use mathlib.Core.Path.{sym, ◌∙◌}
use Prim.Native.Nat.{ℕ, ◌/◌, ◌%◌}
use native.Mathlib.Omega.{arith}
use Rattle.interval.specs.declared.Scalar.{Scalar}
use Rattle.linear.proofs.Lists.{list_to-none, list_to-more}
use Rattle.run.specs.Vectors.{entry}
use Rattle.run.proofs.basis.pack.Goals as goal

pub loop-p-init : goal.loop-p-init
loop-p-init c = (search rules, search rules, sym (list_to-none _ _))

pub loop-p-preserved : goal.loop-p-preserved
loop-p-preserved c =
    let a = c.args in
    let f : ℕ → Scalar = λ j. entry a.a.now (j / a.r) (j % a.r) in
    let e =
    rw (
      c.loop-p.invariant.2,
      c.at.ensures,
    ) at c.put.ensures in (
      search rules,
      search rules,
      e
          ∙ list_to-more f c.loop-p.p a.to.now
          (omega (arith, c.requires.1, c.loop-p-test.true)),
    )
