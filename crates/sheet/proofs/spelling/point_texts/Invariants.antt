-- `point_texts` meets its contract: the lines of the first i points are written.
use mathlib.Core.Path.{◌≡◌}
use Prim.Native.Nat.{◌+◌, ◌-◌, ◌*◌, ◌≤◌}
use lib.ListN.{length, take}
use Rattle.sheet.specs.Spelling.{point_texts}
use Rattle.sheet.specs.program.Lines.{Appends}
use Rattle.sheet.proofs.spelling.point_texts.Given as goal

abbrev pub invariant-loop-i : goal.invariant-loop-i
invariant-loop-i l = (l.i ≤ l.points.count) × (length l.out ≡ length l.initial.out) × (l.end ≤ l.place + 47 * l.i) ×
    Appends l.initial.out l.place (point_texts (take (2 * l.i) l.points.coordinates)) l.out l.end

abbrev pub decreases-loop-i : goal.decreases-loop-i
decreases-loop-i l = l.points.count - l.i
