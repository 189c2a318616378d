-- `h_times_rows` meets its contract: the first rows hold the products, and the rest are clear.
use mathlib.Core.Path.{◌∙◌}
use Rattle.run.specs.Vectors.{fill_rows}
use Rattle.run.proofs.VectorLaws.{fill_rows_turn}
use borrow.Author.Rules.{rules}
use Rattle.run.proofs.reduced.h_times_rows.Goals as goal

pub loop-t-init : goal.loop-t-init
unfolding fill_rows
loop-t-init c = (search rules, search rules, c.requires.1.1)

pub loop-t-preserved : goal.loop-t-preserved
loop-t-preserved c =
    let l = c.loop-t in
    (search rules, search rules, c.h_times_row.ensures ∙ fill_rows_turn _ _ _ l.t l.invariant.2)
