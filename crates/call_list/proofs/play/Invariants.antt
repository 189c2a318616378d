-- `play` meets its contract: the loop keeps what is left to play, and where no code is left this is the fold, of which
-- demand 3 speaks.
use Prim.Native.Nat.{◌-◌}
use mathlib.Core.Path.{◌≡◌, refl}
use native.Mathlib.Omega.{arith}
use lib.ListN.{length}
use Rattle.call_list.specs.CallList.{call_result_of}
use Rattle.call_list.proofs.FoldLaws.{Playing, playing, play_more}
use Rattle.call_list.proofs.DemandLaws.{play_ends}
use Rattle.call_list.proofs.play.Given as goal

abbrev pub invariant-loop-i : goal.invariant-loop-i
invariant-loop-i l = Playing (call_result_of l.initial.out l.initial.area) l.codes l.ms l.numbers (call_result_of l.out l.area) l.i l.at × (length l.area ≡ length l.initial.area)

abbrev pub decreases-loop-i : goal.decreases-loop-i
decreases-loop-i l = length l.codes - l.i
