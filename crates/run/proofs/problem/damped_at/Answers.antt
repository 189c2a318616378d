-- `damped_at` meets its contract: the damping stands on the diagonal.
use Rattle.run.proofs.ProblemLaws.{damped_on, damped_off}
use Rattle.run.proofs.problem.damped_at.Goals as goal

pub returns-then-i-j : goal.returns-then-i-j
returns-then-i-j c =
    damped_on _ _ _ _ _ c.if-i-j.true c.mul.ensures.value
    c.add.ensures.value c.choose.ensures

pub returns : goal.returns
returns c = damped_off _ _ _ _ _ c.if-i-j.false
