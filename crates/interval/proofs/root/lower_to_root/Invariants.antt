-- `lower_to_root` meets its contract: the candidate never rises, and the loop is left where its square is at most c.
use Rattle.std.proofs.Common.{◌≤◌}
use Rattle.interval.proofs.root.lower_to_root.Given as goal

abbrev pub invariant-loop-q : goal.invariant-loop-q
invariant-loop-q l = l.q ≤ l.start

abbrev pub decreases-loop-q : goal.decreases-loop-q
decreases-loop-q l = l.q
