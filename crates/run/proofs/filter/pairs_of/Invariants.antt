-- `pairs_of` meets its contract: the pairs so far are stored.
use Prim.Native.Nat.{◌≤◌, ◌-◌}
use mathlib.Core.Path.{◌≡◌}
use lib.ListN.{length, take}
use Rattle.run.specs.program.Filter.{pairs_to}
use Rattle.run.proofs.filter.pairs_of.Given as goal

abbrev pub invariant-loop-i : goal.invariant-loop-i
invariant-loop-i l = (l.i ≤ l.count) × (length l.pairs ≡ 200) × (take l.i l.pairs ≡ pairs_to l.filter l.i)

abbrev pub decreases-loop-i : goal.decreases-loop-i
decreases-loop-i l = l.count - l.i
