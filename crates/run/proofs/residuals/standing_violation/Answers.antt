-- `standing_violation` meets its contract: the rows that are read are the memory's, of their whole length.
use mathlib.Core.List.{List}
use mathlib.Core.Path.{ap, ◌∙◌}
use lib.Ieee.{Float}
use Rattle.run.specs.Area.{standing_counts}
use Rattle.run.specs.Residuals.{violation_of}
use Rattle.run.specs.Rows.{constraints_of}
use Rattle.run.proofs.MemoryLaws.{read_standing_rows}
use Rattle.run.proofs.residuals.standing_violation.Goals as goal

pub returns : goal.returns
returns c w h e =
    let st = c.args.st in
    let k = c.standing_counts-c.ensures in
    rw k at c.violation.ensures
    ∙ ap (λ (xs : List Float). violation_of (constraints_of (standing_counts st) xs))
    (rw k at c.standing_rows.ensures ∙ read_standing_rows h e)
