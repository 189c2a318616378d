-- `longest` meets its contract: the choice so far is the definition's.
use mathlib.Core.Path.{◌≡◌}
use Prim.Native.Nat.{◌+◌, ◌≤◌, ◌-◌}
use Rattle.run.specs.program.NullSpace.{longest_in}
use Rattle.run.proofs.null_space.longest.Given as goal

abbrev pub invariant-loop-p : goal.invariant-loop-p
invariant-loop-p l = (1 ≤ l.p) × (l.p ≤ 1 + (l.k - 1)) × (l.best ≡ longest_in l.k l.left (l.p - 1))

abbrev pub decreases-loop-p : goal.decreases-loop-p
decreases-loop-p l = l.k - l.p
