-- `rules` meets its contract: what is still to be read is what the rules so far leave.
use mathlib.Core.List.{[]}
use mathlib.Core.Path.{◌≡◌}
use Prim.Native.Nat.{◌-◌, ◌≤◌}
use lib.ListN.{length, take, drop}
use Rattle.sheet.specs.Sheet.{rules_from}
use Rattle.sheet.proofs.reader.rules.Given as goal

abbrev pub invariant-loop-i : goal.invariant-loop-i
invariant-loop-i l = (l.i ≤ l.count) × (length l.list ≡ 12)
    × (rules_from l.points l.count [] (drop l.at l.text) ≡ rules_from l.points (l.count - l.i) (take l.i l.list) (drop l.place l.text))

abbrev pub decreases-loop-i : goal.decreases-loop-i
decreases-loop-i l = l.count - l.i
