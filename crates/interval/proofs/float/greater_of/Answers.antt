-- `greater_of` meets its contract: each branch is one side of the choice.
use Rattle.interval.specs.Float.{greater}
use Rattle.interval.proofs.float.greater_of.Goals as goal

pub returns-then-b-a : goal.returns-then-b-a
unfolding greater
returns-then-b-a c = simp c.if-b-a.true

pub returns-else-b-a : goal.returns-else-b-a
unfolding greater
returns-else-b-a c = simp c.if-b-a.false
