-- `estimate` meets its contract: the result is a remainder by 2^28, whatever the estimate is.
use Rattle.interval.proofs.RootExtend.{no_nan}
use Rattle.interval.proofs.root.estimate.Goals as goal

pub float_from_bits-z : goal.float_from_bits-z
float_from_bits-z c = no_nan c.pattern_of-m.result c.pattern_of-m.ensures
