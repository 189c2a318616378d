-- `lesser_of` meets its contract: each branch is one side of the choice.
use Rattle.interval.specs.Float.{lesser}
use Rattle.interval.proofs.float.lesser_of.Goals as goal

pub returns-then-b-a : goal.returns-then-b-a
unfolding lesser
returns-then-b-a c = simp c.if-b-a.true

pub returns-else-b-a : goal.returns-else-b-a
unfolding lesser
returns-else-b-a c = simp c.if-b-a.false
