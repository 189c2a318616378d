-- `sum_change` meets its contract: the sum is that of the rows so far.
use mathlib.Core.Path.{◌≡◌}
use Prim.Native.Nat.{◌≤◌, ◌-◌}
use Rattle.interval.specs.Scalar.{add_of, sub_of}
use Rattle.linear.specs.Dot.{dot_to}
use Rattle.run.specs.Rows.{rows_in, value_at}
use Rattle.run.proofs.judgement.sum_change.Given as goal

abbrev pub invariant-loop-i : goal.invariant-loop-i
invariant-loop-i l = (l.i ≤ l.count)
    × (l.total ≡ dot_to (λ k. sub_of (value_at (rows_in l.xs l.e) k) (value_at (rows_in l.ys l.f) k))
    (λ k. add_of (value_at (rows_in l.xs l.e) k) (value_at (rows_in l.ys l.f) k)) l.i)

abbrev pub decreases-loop-i : goal.decreases-loop-i
decreases-loop-i l = l.count - l.i
