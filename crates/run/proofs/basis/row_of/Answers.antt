-- `row_of` meets its contract: one place more is filled in each turn.
use borrow.Author.Rules.{rules}
use mathlib.Core.Path.{sym, ◌∙◌}
use Prim.Native.Nat.{◌*◌}
use Rattle.linear.proofs.Sums.{along_row}
use Rattle.run.specs.Vectors.{row, fill_to}
use Rattle.run.proofs.VectorLaws.{fill_first}
use Rattle.run.proofs.basis.row_of.Goals as goal

pub loop-p-init : goal.loop-p-init
unfolding fill_to
loop-p-init c = search rules

pub loop-p-preserved : goal.loop-p-preserved
loop-p-preserved c =
    let a = c.args in (
      search rules,
      search rules,
      c.put.ensures
          ∙ fill_first a.v.now (row a.jc.now a.i)
          c.loop-p.p
          c.loop-p.invariant.2
          (c.at.ensures
          ∙ sym (along_row a.jc.now (12 * a.i) c.loop-p.p)),
    )
