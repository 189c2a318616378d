-- `seek_from` meets its contract: at every turn the search that is left gives what the whole one gives, with fewer
-- dampings.
use mathlib.Core.Path.{◌≡◌}
use Prim.Native.Nat.{◌-◌}
use lib.ListN.{length}
use Rattle.run.specs.Limits.{DAMPINGS}
use Rattle.run.specs.program.Proposal.{standing_in}
use Rattle.run.proofs.SearchLaws.{Seeking, growths}
use Rattle.run.proofs.search.seek_from.Given as goal

abbrev pub invariant-loop-left : goal.invariant-loop-left
invariant-loop-left l = (length l.delta ≡ length l.initial.delta) × (length l.lambda ≡ length l.initial.lambda)
    × Seeking (standing_in l.origin l.area) l.origin.max_step l.initial.state l.state

abbrev pub decreases-loop-left : goal.decreases-loop-left
decreases-loop-left l = DAMPINGS - growths l.initial.state l.state
