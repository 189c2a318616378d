-- `unsigned` meets its contract: the digits in front, with the cap at each; what is left of them is read on from the
-- size reached.
use mathlib.Core.Path.{◌≡◌}
use Prim.Native.Nat.{◌-◌, ◌≤◌}
use lib.ListN.{length, drop}
use Rattle.sheet.specs.program.Numbers.{CAP, capped_from}
use Rattle.sheet.proofs.numbers.unsigned.Given as goal

abbrev pub invariant-loop-i : goal.invariant-loop-i
invariant-loop-i l = (l.i-end ≡ length l.text) × (l.size ≤ CAP) × (capped_from 0 (drop l.at l.text) ≡ capped_from l.size (drop l.i l.text))

abbrev pub decreases-loop-i : goal.decreases-loop-i
decreases-loop-i l = length l.text - l.i
