-- The event that a call returns, as numbers (PROTOCOL, Calls): which is 0 for a question, 1
-- for the finish, 2 for a refusal; what an event does not tell is 0.
use Rattle.std.specs.Prelude.{ℕ}
use Rattle.run.specs.Refusal.{number_of}
use Rattle.run.specs.declared.state.Event.{Event}
use Rattle.run.specs.declared.state.Event.TheVariants as event
use Rattle.run.specs.declared.state.Stop.{Stop}
use Rattle.run.specs.declared.state.Stop.TheVariants as stop
use Rattle.yadzvego.specs.CState.{kind_number, rejection_number}
use Rattle.yadzvego.specs.declared.events.Ending.{Ending}
use Rattle.yadzvego.specs.declared.events.EventNumbers.{EventNumbers}

-- the stop, the rejection, how many constraints are independent, and of how many
abbrev pub ended : ℕ → ℕ → ℕ → ℕ → Ending
ended s rejected independent constraints =
    record { stop = s; rejected = rejected; independent = independent; constraints = constraints }

abbrev pub ending_of : Stop → Ending
ending_of stop.Infeasible = ended 0 0 0 0
ending_of (stop.NoChange r) = ended 1 (rejection_number r) 0 0
ending_of stop.Undecided = ended 2 0 0 0
ending_of (stop.Flat independent constraints) = ended 3 0 independent constraints
ending_of (stop.Damped r) = ended 4 (rejection_number r) 0 0
ending_of stop.Budget = ended 5 0 0 0

-- which, kind, number, standing
abbrev pub asked : ℕ → ℕ → ℕ → ℕ → EventNumbers
asked which k number standing = record {
  which = which;
  kind = k;
  stop = 0;
  rejected = 0;
  number = number;
  standing = standing;
  independent = 0;
  constraints = 0;
  iterations = 0;
  turned_down = 0;
}

-- iterations, turn-downs, standing
abbrev pub finished : Ending → ℕ → ℕ → ℕ → EventNumbers
finished e iterations turned standing = record {
  which = 1;
  kind = 0;
  stop = e.stop;
  rejected = e.rejected;
  number = 0;
  standing = standing;
  independent = e.independent;
  constraints = e.constraints;
  iterations = iterations;
  turned_down = turned;
}

abbrev pub numbers_of : Event → EventNumbers
numbers_of (event.Question number k standing) = asked 0 (kind_number k) number standing
numbers_of (event.Finish s iterations turned standing) = finished (ending_of s) iterations turned standing
numbers_of (event.Refused r) = asked 2 0 (number_of r) 0
