-- `linearized` meets its contract: the places so far are filled.
use borrow.Author.Rules.{rules}
use mathlib.Core.Path.{refl, ◌∙◌}
use Rattle.run.specs.Vectors.{fill_to}
use Rattle.run.proofs.VectorLaws.{fill_first}
use Rattle.run.proofs.residuals.linearized.Goals as goal

pub loop-i-init : goal.loop-i-init
unfolding fill_to
loop-i-init c = (search rules, refl, refl)

pub loop-i-preserved : goal.loop-i-preserved
loop-i-preserved c =
    let l = c.loop-i in (
      search rules,
      search rules,
      c.put.ensures
          ∙ fill_first _ _ l.i l.invariant.2 c.linearized_at.ensures,
    )
