-- `pull` meets its contract: the first places hold the definition's, and the rest are clear.
use mathlib.Core.Path.{◌∙◌}
use native.Mathlib.Nat.{le_antisymm}
use borrow.Author.Rules.{rules}
use Rattle.run.specs.Vectors.{fill_to}
use Rattle.run.specs.Reduced.{pull_of}
use Rattle.run.proofs.ReducedLaws.{negated}
use Rattle.run.proofs.VectorLaws.{fill_first}
use Rattle.run.proofs.reduced.pull.Goals as goal

pub loop-i-init : goal.loop-i-init
unfolding fill_to
loop-i-init c = (search rules, search rules, c.requires.1)

pub loop-i-preserved : goal.loop-i-preserved
loop-i-preserved c =
    let l = c.loop-i in (
      search rules,
      search rules,
      c.put.ensures
          ∙ fill_first _ _ l.i l.invariant.2
          (negated c.slope_at.ensures
          c.neg.ensures.value c.choose.ensures),
    )

pub returns : goal.returns
unfolding pull_of
returns c = rw (le_antisymm c.loop-i.invariant.0 c.loop-i-test.false) at c.loop-i.invariant.2
