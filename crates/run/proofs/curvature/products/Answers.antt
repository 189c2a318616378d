-- `products` meets its contract: the slice is filled so far.
use mathlib.Core.Path.{sym, ◌∙◌}
use borrow.Author.Rules.{rules}
use Rattle.linear.proofs.Sums.{along_start}
use Rattle.run.proofs.VectorLaws.{fill_none, fill_first}
use Rattle.run.proofs.curvature.products.Invariants.{product}
use Rattle.run.proofs.curvature.products.Goals as goal

pub loop-i-init : goal.loop-i-init
loop-i-init c = (search rules, search rules, sym (fill_none _ _))

pub loop-i-preserved : goal.loop-i-preserved
loop-i-preserved c = let a = c.args in (
  search rules,
  search rules,
  c.put.ensures ∙ fill_first a.out.now (product a.n a.rows.now
      a.v.now) c.loop-i.i c.loop-i.invariant.2 (rw along_start at c.row_dot.ensures),
)
