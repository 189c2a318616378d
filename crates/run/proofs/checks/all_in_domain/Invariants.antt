-- `all_in_domain` meets its contract: whether all so far are in the domain, each read inside the slice; where the count
-- goes beyond it, a NaN is among them.
use mathlib.Core.Path.{◌≡◌}
use Prim.Native.Nat.{◌≤◌, ◌-◌}
use Rattle.run.specs.Checks.{all_in_domain}
use Rattle.run.proofs.checks.all_in_domain.Given as goal

abbrev pub invariant-loop-i : goal.invariant-loop-i
invariant-loop-i l = (l.i ≤ l.count) × (l.inside ≡ all_in_domain l.xs l.i)

abbrev pub decreases-loop-i : goal.decreases-loop-i
decreases-loop-i l = l.count - l.i
