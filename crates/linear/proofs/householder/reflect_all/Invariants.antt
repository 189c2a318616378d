-- `reflect_all` meets its contract: the invariant is the fold at the columns passed, not refused.
use mathlib.Core.Path.{◌≡◌}
use Prim.Native.Nat.{◌≤◌}
use lib.ListN.{length}
use Rattle.interval.specs.Result.{ok}
use Rattle.linear.specs.Householder.{reflect_to}
use Rattle.linear.proofs.householder.reflect_all.Given as goal

abbrev pub invariant-loop-t : goal.invariant-loop-t
invariant-loop-t l = (l.t ≤ l.k) × (length l.cols ≡ length l.initial.cols)
    × (reflect_to l.m l.j l.v l.vv l.initial.cols l.t ≡ ok l.cols)
