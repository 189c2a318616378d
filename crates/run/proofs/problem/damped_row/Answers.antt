-- `damped_row` meets its contract: one place more is filled in each turn.
use mathlib.Core.Path.{◌∙◌}
use Prim.Native.Nat.{◌+◌, ◌*◌}
use Rattle.linear.specs.Flat.{at}
use Rattle.run.specs.program.Problem.{damped_entry}
use Rattle.run.specs.Vectors.{fill_to}
use Rattle.run.proofs.VectorLaws.{fill_turn}
use borrow.Author.Rules.{rules}
use Rattle.run.proofs.problem.damped_row.Goals as goal

pub loop-j-init : goal.loop-j-init
unfolding fill_to
loop-j-init c = search rules

pub loop-j-preserved : goal.loop-j-preserved
loop-j-preserved c =
    let a = c.args in
    let l = c.loop-j in (
      search rules,
      search rules,
      c.put.ensures
          ∙ fill_turn a.h.now (12 * a.i) (λ j. damped_entry (at a.undamped.now (12 * a.i + j))
          (at a.undamped.now (144 + a.i)) a.mu a.i j) l.j l.invariant.2
          (rw (
            c.at.ensures,
            c.at-scale.ensures,
          ) at c.damped_at.ensures),
    )
