-- `step_up` meets its contract: x + 0 is no -0, and steps up to the same float as x.
use mathlib.Core.Path.{◌∙◌}
use lib.Ieee.{of_bits}
use Rattle.interval.proofs.Given.{yes}
use Rattle.interval.proofs.Bounds.{plus_zero_number}
use Rattle.interval.proofs.PlusZero.{plus_zero_kept, next_plus_zero}
use Rattle.linear.proofs.bounds.step_up.Goals as goal

pub step_on-requires : goal.step_on-requires
unfolding of_bits
step_on-requires c = (plus_zero_number c.args.x c.requires, plus_zero_kept c.args.x (yes c.well_formed.0.1))

pub returns : goal.returns
unfolding of_bits
returns c = c.step_on.ensures ∙ next_plus_zero c.args.x (yes c.well_formed.0.1)
