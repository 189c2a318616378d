-- `gram` meets its contract: the rows so far are in place, two more at each turn, and a last one where they are odd.
use Prim.Native.Nat.{◌*◌, ◌≤◌}
use mathlib.Core.Path.{◌≡◌}
use lib.ListN.{length}
use Rattle.linear.specs.Solved.{gram_at, LowerRows}
use Rattle.linear.proofs.solved.gram.Given as goal

abbrev pub invariant-loop-h : goal.invariant-loop-h
invariant-loop-h l = (l.h ≤ l.half) × (length l.g ≡ length l.initial.g) × LowerRows (gram_at l.n l.jc) l.m (2 * l.h) l.g
