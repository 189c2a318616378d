-- `force` meets its contract: the first places hold the definition's, and the rest are clear.
use mathlib.Core.Path.{sym, ◌∙◌}
use native.Mathlib.Nat.{le_antisymm}
use Rattle.run.specs.Reduced.{force_of}
use Rattle.run.proofs.VectorLaws.{fill_none, fill_first}
use borrow.Author.Rules.{rules}
use Rattle.run.proofs.reduced.force.Goals as goal

pub loop-i-init : goal.loop-i-init
loop-i-init c = (search rules, search rules, c.requires.1 ∙ sym (fill_none _ _))

pub loop-i-preserved : goal.loop-i-preserved
loop-i-preserved c =
    let l = c.loop-i in (
      search rules,
      search rules,
      c.put.ensures
          ∙ fill_first _ _ l.i l.invariant.2
          (rw (← c.slope_at.ensures) c.choose.ensures),
    )

pub returns : goal.returns
unfolding force_of
returns c = rw (le_antisymm c.loop-i.invariant.0 c.loop-i-test.false) at c.loop-i.invariant.2
