-- `trial` meets its contract: the places so far are chosen or clear, and the place that is read is still as it was.
use mathlib.Core.Path.{◌≡◌}
use Prim.Native.Nat.{◌≤◌, ◌-◌}
use lib.Dec.{ltb}
use lib.ListN.{length}
use Rattle.interval.specs.Scalar.{zero_s, pick}
use Rattle.linear.specs.Choose.{choose_of}
use Rattle.linear.specs.Flat.{at}
use Rattle.run.specs.Vectors.{fill_to}
use Rattle.run.proofs.proposal.trial.Given as goal

abbrev pub invariant-loop-i : goal.invariant-loop-i
invariant-loop-i l = (l.i ≤ 12) × (length l.delta ≡ length l.initial.delta) ×
    (l.delta ≡ fill_to l.initial.delta 0 (λ j. pick (ltb j l.c.n) (choose_of (at l.initial.delta j)) zero_s) l.i)

abbrev pub decreases-loop-i : goal.decreases-loop-i
decreases-loop-i l = 12 - l.i
