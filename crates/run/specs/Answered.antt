-- What follows an accepted answer (PROTOCOL, An iteration), by the kind of its question.
use Rattle.std.specs.Prelude.{ℕ, List, Float}
use Rattle.interval.specs.declared.Scalar.{Scalar}
use Rattle.run.specs.Area.{Memory, standing_at, with_start, rows_at}
use Rattle.run.specs.Corrected.{land_trial, land_correction}
use Rattle.run.specs.Decide.{turn_down, judge}
use Rattle.run.specs.Endings.{AfterSlots, or_refuse, finish}
use Rattle.run.specs.Iterate.{iterate}
use Rattle.run.specs.Residuals.{violation_of, moving_of}
use Rattle.run.specs.State.{starting}
use Rattle.run.specs.declared.state.Kind.{Kind}
use Rattle.run.specs.declared.state.Kind.TheVariants as kind
use Rattle.run.specs.declared.state.Rejection.TheVariants as why
use Rattle.run.specs.declared.state.State.{State}
use Rattle.run.specs.declared.state.Stop.TheVariants as stop

-- ---- an accepted answer

-- with the violation of the standing point
abbrev pub from_standing : State → Memory → (Scalar → AfterSlots) → AfterSlots
from_standing st w next = or_refuse st w (violation_of (standing_at st w).constraints) next

unfoldable pub started : State → Memory → ℕ → List Float → AfterSlots
started st w m rows = iterate (starting st m (moving_of st.sizes.n (rows_at st m rows))) (with_start st w rows)

-- with rows, m constraint rows among them
abbrev pub answered : Kind → State → Memory → ℕ → List Float → AfterSlots
answered kind.Start st w m rows = started st w m rows
answered kind.Trial st w m rows = from_standing st w (land_trial st w m rows)
answered kind.Correction st w m rows = from_standing st w (land_correction st w m rows)

abbrev pub answered_none : Kind → State → Memory → AfterSlots
answered_none kind.Start st w = finish st w stop.Infeasible
answered_none kind.Trial st w = turn_down st w why.Infeasible
answered_none kind.Correction st w = from_standing st w (judge st w)
