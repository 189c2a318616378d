-- `scalars::yadzvego_interval_one` meets its contract: the constant's pattern is the number's.
use mathlib.Core.Path.{refl}
use lib.Ieee.{of_bits}
use Rattle.yadzvego.proofs.scalars.yadzvego_interval_one.Goals as goal

pub returns : goal.returns
unfolding of_bits
returns c = refl
