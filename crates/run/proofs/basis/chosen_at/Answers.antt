-- `chosen_at` meets its contract: one place more is filled in each turn.
use borrow.Author.Rules.{rules}
use mathlib.Core.Path.{ap, ◌∙◌}
use Rattle.linear.specs.Choose.{choose_of}
use Rattle.linear.specs.Flat.{at}
use Rattle.run.specs.Vectors.{fill_to}
use Rattle.run.proofs.VectorLaws.{fill_turn}
use Rattle.run.proofs.basis.chosen_at.Goals as goal

pub loop-j-init : goal.loop-j-init
unfolding fill_to
loop-j-init c = search rules

pub loop-j-preserved : goal.loop-j-preserved
loop-j-preserved c =
    let a = c.args in (
      search rules,
      search rules,
      c.put.ensures
          ∙ fill_turn a.to.now a.t0 (λ p. choose_of (at a.a.now p))
          c.loop-j.j
          c.loop-j.invariant.2
          (c.choose.ensures ∙ ap choose_of c.at.ensures),
    )
