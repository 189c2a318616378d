-- `normalize` meets its contract: each turn moves one factor of 2 from the exponent to c.
use Rattle.interval.proofs.RootBits.{up_turn}
use Rattle.interval.proofs.root.normalize.Goals as goal

pub loop-c-preserved : goal.loop-c-preserved
loop-c-preserved c = up_turn c.args.s.c c.args.s.e c.loop-c.c
    c.loop-c.e c.loop-c.invariant c.loop-c-test.true
