-- `min_of` meets its contract.
use Rattle.interval.specs.Float.{fmin}
use Rattle.interval.proofs.Tests.{same_nan}
use Rattle.interval.proofs.float.min_of.Goals as goal

pub returns-then-is_nan : goal.returns-then-is_nan
unfolding fmin
returns-then-is_nan c = rw (← same_nan c.args.a, ← c.is_nan.ensures.value, c.if-is_nan.true)

pub returns : goal.returns
unfolding fmin
returns c = rw (← same_nan c.args.a, ← c.is_nan.ensures.value, c.if-is_nan.false) c.lesser_of.ensures
