-- `minus` meets its contract: the slice starts with the scalars stored so far, and is else as it was.
use mathlib.Core.Path.{◌≡◌}
use mathlib.Core.List.{◌++◌}
use Prim.Native.Nat.{◌*◌, ◌≤◌}
use lib.ListN.{length, drop}
use Rattle.linear.specs.Flat.{list_to}
use Rattle.linear.specs.Solved.{minus_at}
use Rattle.linear.proofs.solved.minus.Given as goal

abbrev pub invariant-loop-h : goal.invariant-loop-h
invariant-loop-h l = (l.h ≤ l.half) × (length l.out ≡ length l.initial.out)
    × (l.out ≡ list_to (minus_at l.m l.n l.jc l.from l.k) (2 * l.h) ++ drop (2 * (2 * l.h)) l.initial.out)
