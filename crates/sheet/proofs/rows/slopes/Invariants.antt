-- `slopes` meets its contract: the places so far are filled.
use mathlib.Core.Path.{◌≡◌}
use Prim.Native.Nat.{◌*◌, ◌/◌, ◌%◌, ◌≤◌, ◌-◌}
use lib.ListN.{length}
use Rattle.linear.specs.Flat.{fill_to}
use Rattle.sheet.specs.Rows.{slope_of, rule_at}
use Rattle.sheet.specs.program.Sheet.{list_in}
use Rattle.sheet.proofs.rows.slopes.Given as goal

abbrev pub invariant-loop-p : goal.invariant-loop-p
invariant-loop-p l = (l.p ≤ l.rules.count * l.n) × (length l.rows ≡ length l.initial.rows)
    × (l.rows ≡ fill_to l.initial.rows l.base (λ q. slope_of l.x (rule_at (list_in l.rules) (q / l.n)) (q % l.n)) l.p)

abbrev pub decreases-loop-p : goal.decreases-loop-p
decreases-loop-p l = l.rules.count * l.n - l.p
