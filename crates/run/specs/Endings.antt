-- How a call ends (PROTOCOL, Calls): a question, the finish, or refusal 5 or 6. A refusal
-- keeps the point that stands when it is met, with the counts of that moment.
use Rattle.std.specs.Prelude.{ℕ, ◌+◌}
use Rattle.interval.specs.Result.{Res, ok, refused}
use Rattle.run.specs.Area.{Memory, only_standing}
use Rattle.run.specs.Refusal.{refusal_at}
use Rattle.run.specs.State.{over, asking}
use Rattle.run.specs.declared.state.Event.{Event}
use Rattle.run.specs.declared.state.Event.TheVariants as event
use Rattle.run.specs.declared.state.Kind.{Kind}
use Rattle.run.specs.declared.state.State.{State}
use Rattle.run.specs.declared.state.Stop.{Stop}

-- what a call leaves: the state, the area and the event
pub record AfterSlots : Type 0 where
  pub state : State
  pub memory : Memory
  pub event : Event

-- the finish, with the counts of the run
abbrev pub finish : State → Memory → Stop → AfterSlots
finish st w s = record {
  state = over st;
  memory = only_standing w;
  event = event.Finish s st.counts.iterations st.search.turned_down st.counts.standing;
}

-- refusal k
abbrev pub refuse : State → Memory → ℕ → AfterSlots
refuse st w k = record { state = over st; memory = only_standing w; event = event.Refused (refusal_at k) }

-- the next question, over an area that has its point
abbrev pub question : State → Memory → Kind → ℕ → AfterSlots
question st w k corrections = record {
  state = asking st k corrections;
  memory = w;
  event = event.Question (st.counts.question + 1) k st.counts.standing;
}

-- what follows a value, or the refusal
abbrev pub or_refuse : {A : Type 0} → State → Memory → Res A → (A → AfterSlots) → AfterSlots
or_refuse st w (ok x) next = next x
or_refuse st w (refused k) next = refuse st w k
