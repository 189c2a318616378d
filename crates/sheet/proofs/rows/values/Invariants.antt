-- `values` meets its contract: the places so far are filled.
use mathlib.Core.Path.{◌≡◌}
use Prim.Native.Nat.{◌≤◌, ◌-◌}
use lib.ListN.{length}
use Rattle.linear.specs.Flat.{fill_to}
use Rattle.sheet.specs.Rows.{value_of, rule_at}
use Rattle.sheet.specs.program.Sheet.{list_in}
use Rattle.sheet.proofs.rows.values.Given as goal

abbrev pub invariant-loop-k : goal.invariant-loop-k
invariant-loop-k l = (l.k ≤ l.rules.count) × (length l.rows ≡ length l.initial.rows)
    × (l.rows ≡ fill_to l.initial.rows 0 (λ i. value_of l.x (rule_at (list_in l.rules) i)) l.k)

abbrev pub decreases-loop-k : goal.decreases-loop-k
decreases-loop-k l = l.rules.count - l.k
