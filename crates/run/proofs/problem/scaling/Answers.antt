-- `scaling` meets its contract: the definition's steps, from what each call gives.
use lib.Ieee.{of_bits}
use Rattle.run.specs.Problem.{scaling_at}
use Rattle.run.proofs.problem.scaling.Goals as goal

pub returns : goal.returns
unfolding scaling_at of_bits
returns c =
    let p = c.in_column-p.ensures in
    let d = rw p at c.plus_dot-d.ensures in
    rw (← d) (rw p at c.plus_dot.ensures)
