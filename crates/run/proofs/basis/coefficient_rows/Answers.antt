-- `coefficient_rows` meets its contract: the slice starts with the coefficients stored so far, and is else as it was.
use borrow.Author.Rules.{rules}
use mathlib.Core.Path.{sym, ◌∙◌}
use native.Mathlib.Omega.{arith}
use Rattle.linear.proofs.Lists.{list_to-none, list_to-more}
use Rattle.run.proofs.basis.coefficient_rows.Invariants.{packed_at}
use Rattle.run.proofs.basis.coefficient_rows.Goals as goal

pub loop-p-init : goal.loop-p-init
loop-p-init c = (search rules, search rules, sym (list_to-none _ _))

pub loop-p-preserved : goal.loop-p-preserved
loop-p-preserved c =
    let a = c.args in
    let e =
    rw (
      c.loop-p.invariant.2,
      c.coefficient_at.ensures,
    ) at c.put.ensures in (
      search rules,
      search rules,
      e
          ∙ list_to-more (packed_at a.r a.coefficients.now a.dependent.now)
          c.loop-p.p a.rows.now
          (omega (arith, c.requires.1.1, c.loop-p-test.true)),
    )
