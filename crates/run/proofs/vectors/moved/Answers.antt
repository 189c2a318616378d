-- `moved` meets its contract: the vector is filled so far.
use mathlib.Core.Path.{sym, ◌∙◌}
use native.Mathlib.Nat.{le_antisymm}
use borrow.Author.Rules.{rules}
use Rattle.run.specs.Vectors.{vector}
use Rattle.run.specs.Vectors.{moved_of}
use Rattle.run.proofs.PointLaws.{sharp_sum, sharp-sum}
use Rattle.run.proofs.VectorLaws.{fill_none, fill_first}
use Rattle.run.proofs.vectors.moved.Goals as goal

pub loop-i-init : goal.loop-i-init
loop-i-init c = (
  search rules,
  search rules,
  rw c.requires at c.clear.ensures
      ∙ sym (fill_none _ _),
)

pub loop-i-preserved : goal.loop-i-preserved
loop-i-preserved c =
    let a = c.args in (
      search rules,
      search rules,
      c.put.ensures
          ∙ fill_first vector (sharp_sum a.x.now a.d.now)
          c.loop-i.i
          c.loop-i.invariant.2
          (sharp-sum a.x.now a.d.now
          c.loop-i.i
          c.at-v.ensures
          c.at.ensures
          c.add-w.ensures.value
          c.sharpen.ensures),
    )

pub returns : goal.returns
unfolding moved_of
returns c = rw (le_antisymm c.loop-i.invariant.0 c.loop-i-test.false) at c.loop-i.invariant.2
