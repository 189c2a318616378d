-- `kept_step` meets its contract: H is damped into a clear array, then the test decides.
use Rattle.run.proofs.StepLaws.{damped_not, damped_on}
use Rattle.run.proofs.step.kept_step.Goals as goal

pub returns-then-all_finite : goal.returns-then-all_finite
returns-then-all_finite c =
    damped_on _ _ _ _ _
    c.requires.0
    c.damped.ensures
    c.all_finite.ensures
    c.if-all_finite.true
    c.prepared_step.ensures

pub returns : goal.returns
returns c =
    damped_not _ _ _ _ _ c.requires.0
    c.damped.ensures c.all_finite.ensures c.if-all_finite.false
