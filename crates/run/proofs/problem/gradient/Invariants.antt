-- `gradient` meets its contract: the values chosen, into a clear array, then one place more is filled in each turn.
use mathlib.Core.Path.{◌≡◌}
use Prim.Native.Nat.{◌≤◌, ◌-◌}
use lib.ListN.{length, get_or}
use Rattle.linear.specs.Choose.{choose_of}
use Rattle.linear.specs.Dot.{dot_to}
use Rattle.linear.specs.Flat.{at}
use Rattle.run.specs.Rows.{rows_in, slopes_by}
use Rattle.run.specs.Vectors.{fill_to}
use Rattle.run.proofs.problem.gradient.Given as goal

abbrev pub invariant-loop-p : goal.invariant-loop-p
invariant-loop-p l = (l.p ≤ l.k) × (length l.undamped ≡ length l.initial.undamped) ×
    (l.undamped ≡ fill_to l.initial.undamped 156
    (λ j. choose_of (dot_to (slopes_by (rows_in l.xs l.e) (get_or l.index j 0)) (at l.r) l.e.count)) l.p)

abbrev pub decreases-loop-p : goal.decreases-loop-p
decreases-loop-p l = l.k - l.p
