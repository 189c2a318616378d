-- `answers` meets its contract: so many replies are left, and what they lead to is what the first leads to.
use mathlib.Core.Path.{◌≡◌}
use Prim.Native.Nat.{◌-◌, ◌≤◌}
use lib.ListN.{length}
use Rattle.run.specs.Calls.{after_call}
use Rattle.sheet.specs.Settling.{answers_to, most_replies}
use Rattle.sheet.specs.program.Sheet.{sheet_by}
use Rattle.sheet.proofs.settling.answers.Given as goal

abbrev pub invariant-loop : goal.invariant-loop
invariant-loop l = (l.counter ≤ most_replies) × (length l.rows ≡ length l.initial.rows) × (length l.area ≡ length l.initial.area) ×
    (answers_to most_replies (sheet_by l.sheet) l.aims (after_call l.initial.out l.initial.area)
    ≡ answers_to (most_replies - l.counter) (sheet_by l.sheet) l.aims (after_call l.out l.area))

abbrev pub decreases-loop : goal.decreases-loop
decreases-loop l = most_replies - l.counter
