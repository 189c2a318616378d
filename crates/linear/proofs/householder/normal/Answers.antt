-- `normal` meets its contract: the definition's steps, from what each call gives.
use Rattle.linear.proofs.Reflections.{normal_is}
use Rattle.linear.proofs.householder.normal.Goals as goal

pub returns : goal.returns
returns c = normal_is _ _ c.at-x0.ensures
    c.alpha.ensures c.sub.ensures.value
    c.choose.ensures c.put.ensures
