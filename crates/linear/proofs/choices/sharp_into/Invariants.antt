-- `sharp_into` meets its contract: the slice starts with the scalars chosen so far, and is else as it was.
use mathlib.Core.Path.{◌≡◌}
use mathlib.Core.List.{◌++◌}
use Prim.Native.Nat.{◌*◌, ◌≤◌}
use lib.ListN.{length, drop}
use Rattle.linear.specs.Choose.{sharp_of}
use Rattle.linear.proofs.choices.sharp_into.Given as goal

abbrev pub invariant-loop-i : goal.invariant-loop-i
invariant-loop-i l = (l.i ≤ l.n) × (length l.out ≡ 2 * l.n) × (l.out ≡ sharp_of l.v l.i ++ drop (2 * l.i) l.initial.out)
