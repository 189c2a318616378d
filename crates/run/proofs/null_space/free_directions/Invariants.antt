-- `free_directions` meets its contract: the directions start from clear slices and the remainders, and what is still to
-- be taken from here is what was to be taken at first.
use mathlib.Core.List.{List}
use mathlib.Core.Path.{◌≡◌}
use Prim.Native.Nat.{ℕ, ◌≤◌, ◌-◌}
use lib.Ieee.{Float}
use lib.ListN.{length}
use Rattle.run.specs.program.NullSpace.{directions_in, span_of}
use Rattle.run.specs.NullSpace.{directions_to, directions_of}
use Rattle.run.proofs.null_space.free_directions.Given as goal

-- with so many directions taken: those that are still to come are the rest of all
pub record Rest (k r : ℕ) (q z₀ : List Float) (most : ℕ) (z left : List Float) (count : ℕ) : Type 0 where
  pub some : count ≤ most
  pub few : most ≤ 12
  pub z-length : length z ≡ length z₀
  pub left-length : length left ≡ 288
  pub directions : span_of (directions_to k (most - count) (directions_in count z left)) ≡ span_of (directions_of k r q)

abbrev pub invariant-loop-count : goal.invariant-loop-count
invariant-loop-count l = Rest l.k l.r l.q l.initial.z l.most l.z l.left l.count

abbrev pub decreases-loop-count : goal.decreases-loop-count
decreases-loop-count l = l.most - l.count
