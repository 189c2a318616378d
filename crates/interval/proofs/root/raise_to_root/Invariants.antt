-- `raise_to_root` meets its contract: the square of the candidate stays at most c, and the loop is left where the next
-- square is above c.
use Rattle.std.proofs.Common.{◌-◌, ◌*◌, ◌^◌, ◌≤◌}
use Rattle.interval.proofs.root.raise_to_root.Given as goal

abbrev pub invariant-loop-q : goal.invariant-loop-q
invariant-loop-q l = l.q * l.q ≤ l.c

abbrev pub decreases-loop-q : goal.decreases-loop-q
decreases-loop-q l = 2 ^ 27 - l.q
