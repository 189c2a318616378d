-- `value_at` meets its contract: with step 1 a place is the start and the index.
use mathlib.Core.Path.{◌∙◌}
use Rattle.linear.proofs.Sums.{along_row}
use Rattle.run.proofs.rows.value_at.Goals as goal

pub returns : goal.returns
returns c = c.along.ensures ∙ along_row _ _ _
