-- For private functions: what a call returns as its definition says, and the bounds of a run while a call works.
use Rattle.std.specs.Prelude.{ℕ, ◌<◌, ◌≤◌, true, List, ◌≡◌, Float}
use Rattle.interval.specs.Scaling.{is_positive}
use Rattle.run.specs.Limits.{VARIABLES, CONSTRAINTS, sum_rows, ITERATIONS}
use Rattle.run.specs.Endings.{AfterSlots}
use Rattle.run.specs.program.Area.{Holds}
use Rattle.run.specs.declared.state.Returned.{Returned}
use Rattle.run.specs.declared.state.State.{State}

-- ---- for the program

-- a state with its answer, and an area, are what an outcome says
pub record Leaves (o : AfterSlots) (r : Returned) (a : List Float) : Type 0 where
  pub state_is : r.state ≡ o.state
  pub event_is : r.event ≡ o.event
  pub held : Holds o.state.sizes o.memory a

-- the numbers of an open run are small, with fewer than t turn-downs, and its damping is positive
pub record Bounded (t : ℕ) (st : State) : Type 0 where
  pub few_variables : st.sizes.n ≤ VARIABLES
  pub few_standing : st.contents.standing_m ≤ CONSTRAINTS
  pub few_landed : st.contents.landed_m ≤ CONSTRAINTS
  pub few_sums : st.sizes.s ≤ sum_rows
  pub few_iterations : st.sizes.limit ≤ ITERATIONS
  pub within : st.counts.iterations ≤ st.sizes.limit
  pub few_corrections : st.counts.corrections ≤ 5
  pub few_questions : st.counts.question < 4294967296
  pub few_turned : st.search.turned_down < t
  pub damping : is_positive st.search.mu ≡ true

-- the same while a trial or a correction is open: an iteration may follow
pub record Underway (st : State) : Type 0 where
  pub bounded : Bounded 1073741824 st
  pub below : st.counts.iterations < st.sizes.limit
