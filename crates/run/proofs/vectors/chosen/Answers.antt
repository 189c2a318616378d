-- `chosen` meets its contract: the places so far are filled.
use borrow.Author.Rules.{rules}
use mathlib.Core.Path.{refl, ap, ◌∙◌}
use Prim.Native.Nat.{◌+◌}
use Rattle.linear.specs.Choose.{choose_of}
use Rattle.linear.specs.Flat.{at}
use Rattle.run.specs.Vectors.{fill_to}
use Rattle.run.proofs.VectorLaws.{fill_first}
use Rattle.run.proofs.vectors.chosen.Goals as goal

pub loop-i-init : goal.loop-i-init
unfolding fill_to
loop-i-init c = (search rules, refl, refl)

pub loop-i-preserved : goal.loop-i-preserved
loop-i-preserved c =
    let l = c.loop-i in
    let a = c.args in
    let v =
    c.choose.ensures
    ∙ ap choose_of c.at.ensures in (
      search rules,
      search rules,
      c.put.ensures
          ∙ fill_first _ (λ j. choose_of (at a.xs.now (a.base + j))) l.i l.invariant.2 v,
    )
