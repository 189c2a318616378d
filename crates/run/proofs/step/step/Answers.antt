-- `step` meets its contract: what no damping changes, from clear arrays, then the step with this one.
use mathlib.Core.Path.{◌∙◌}
use Rattle.run.proofs.step.step.Goals as goal

pub returns : goal.returns
returns c =
    c.damped_step.ensures
    ∙ c.prepare-end.ensures.steps
    c.args.mu
