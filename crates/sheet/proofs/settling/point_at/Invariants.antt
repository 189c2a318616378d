-- `point_at` meets its contract: the first i coordinates are stored.
use mathlib.Core.Path.{◌≡◌}
use Prim.Native.Nat.{◌-◌, ◌*◌}
use Rattle.sheet.proofs.SettlingLaws.{Placing}
use Rattle.sheet.proofs.settling.point_at.Given as goal

abbrev pub invariant-loop-i : goal.invariant-loop-i
invariant-loop-i l = (l.i-end ≡ 2 * l.points.count) × Placing l.points l.initial.out l.i l.out

abbrev pub decreases-loop-i : goal.decreases-loop-i
decreases-loop-i l = 2 * l.points.count - l.i
