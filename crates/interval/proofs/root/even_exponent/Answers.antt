-- `even_exponent` meets its contract: an odd exponent gives one factor of 2 to c.
use Rattle.interval.proofs.RootBits.{even_step}
use Rattle.interval.proofs.root.even_exponent.Goals as goal

pub returns : goal.returns
returns c = even_step c.args.s.c c.args.s.e
    c.if-s-eq0.false
