-- `point_lines` meets its contract: the lines of the first i points are printed.
use mathlib.Core.Path.{◌≡◌}
use Prim.Native.Nat.{◌+◌, ◌*◌, ◌-◌, ◌≤◌}
use lib.ListN.{length}
use Rattle.sheet.specs.Printing.{point_lines}
use Rattle.sheet.specs.program.Lines.{Appends}
use Rattle.sheet.proofs.printing.point_lines.Given as goal

abbrev pub invariant-loop-i : goal.invariant-loop-i
invariant-loop-i l = (l.i ≤ l.count) × (length l.out ≡ length l.initial.out) × (l.end ≡ l.place + 37 * l.i) ×
    Appends l.initial.out l.place (point_lines l.point l.i) l.out l.end

abbrev pub decreases-loop-i : goal.decreases-loop-i
decreases-loop-i l = l.count - l.i
