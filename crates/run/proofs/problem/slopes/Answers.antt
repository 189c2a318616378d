-- `slopes` meets its contract: the slopes as they are, and then the choices of them.
use mathlib.Core.Path.{◌∙◌}
use Rattle.run.proofs.ProblemLaws.{squeezed_plain}
use Rattle.run.proofs.problem.slopes.Goals as goal

pub returns : goal.returns
returns c =
    (c.squeeze.ensures ∙ squeezed_plain _ _ _, c.chosen.ensures)
