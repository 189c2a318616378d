-- `points` meets its contract: what is still to be read is what the points so far leave.
use mathlib.Core.List.{[]}
use mathlib.Core.Path.{◌≡◌}
use Prim.Native.Nat.{◌*◌, ◌-◌, ◌≤◌}
use lib.ListN.{length, take, drop}
use Rattle.sheet.specs.Sheet.{points_from}
use Rattle.sheet.proofs.reader.points.Given as goal

abbrev pub invariant-loop-i : goal.invariant-loop-i
invariant-loop-i l = (l.i ≤ l.count) × (length l.coordinates ≡ 12)
    × (points_from l.count [] (drop l.at l.text) ≡ points_from (l.count - l.i) (take (2 * l.i) l.coordinates) (drop l.place l.text))

abbrev pub decreases-loop-i : goal.decreases-loop-i
decreases-loop-i l = l.count - l.i
