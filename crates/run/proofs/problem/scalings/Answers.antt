-- `scalings` meets its contract: one place more is filled in each turn.
use mathlib.Core.Path.{◌∙◌}
use Rattle.run.specs.Vectors.{fill_to}
use Rattle.run.proofs.VectorLaws.{fill_turn}
use borrow.Author.Rules.{rules}
use Rattle.run.proofs.problem.scalings.Goals as goal

pub loop-i-init : goal.loop-i-init
unfolding fill_to
loop-i-init c = search rules

pub loop-i-preserved : goal.loop-i-preserved
loop-i-preserved c =
    let l = c.loop-i in (
      search rules,
      search rules,
      c.put.ensures
          ∙ fill_turn
          c.args.undamped.now
          144 _ l.i l.invariant.2 c.scaling.ensures,
    )
