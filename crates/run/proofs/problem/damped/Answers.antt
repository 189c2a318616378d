-- `damped` meets its contract: the rows are filled from a clear matrix, one more in each turn.
use borrow.Author.Rules.{rules}
use mathlib.Core.Path.{◌∙◌}
use native.Mathlib.Nat.{le_antisymm}
use Rattle.run.specs.Vectors.{fill_rows}
use Rattle.run.proofs.ProblemLaws.{damped_read}
use Rattle.run.proofs.VectorLaws.{fill_rows_turn}
use Rattle.run.proofs.problem.damped.Goals as goal

pub loop-i-init : goal.loop-i-init
unfolding fill_rows
loop-i-init c = (search rules, search rules, c.requires.2)

pub loop-i-preserved : goal.loop-i-preserved
loop-i-preserved c =
    let l = c.loop-i in
    (search rules, search rules, c.damped_row.ensures ∙ fill_rows_turn _ _ _ l.i l.invariant.2)

pub returns : goal.returns
returns c =
    rw (le_antisymm c.loop-i.invariant.0 c.loop-i-test.false) at c.loop-i.invariant.2
    ∙ damped_read c.args.k c.args.undamped.now c.args.mu c.requires.0 c.requires.1
