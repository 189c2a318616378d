-- `slope_at` meets its contract: the definition's steps, from what each call gives.
use Rattle.linear.proofs.Sums.{along_start}
use Rattle.run.proofs.reduced.slope_at.Goals as goal

pub returns : goal.returns
returns c =
    rw (← c.at.ensures, ← rw along_start at c.h_times_at.ensures) c.add.ensures.value
