-- `clear_slots` meets its contract: the first k slots are cleared, and what lies behind them is as it was.
use mathlib.Core.Path.{◌≡◌}
use Prim.Native.Nat.{◌-◌, ◌≤◌}
use lib.ListN.{length}
use Rattle.run.proofs.AreaLaws.{Clearing}
use Rattle.run.proofs.area.clear_slots.Given as goal

abbrev pub invariant-loop-k : goal.invariant-loop-k
invariant-loop-k l = (l.k-end ≡ length l.sizes) × (l.k ≤ length l.sizes)
    × Clearing l.sizes l.from l.to l.initial.area l.k l.base l.area

abbrev pub decreases-loop-k : goal.decreases-loop-k
decreases-loop-k l = length l.sizes - l.k
