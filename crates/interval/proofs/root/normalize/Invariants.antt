-- `normalize` meets its contract: each turn moves one factor of 2 from the exponent to c.
use Rattle.interval.proofs.RootBits.{Up}
use Rattle.interval.proofs.root.normalize.Given as goal

abbrev pub invariant-loop-c : goal.invariant-loop-c
invariant-loop-c l = Up l.initial.c l.initial.e l.c l.e

abbrev pub decreases-loop-c : goal.decreases-loop-c
decreases-loop-c l = l.e
