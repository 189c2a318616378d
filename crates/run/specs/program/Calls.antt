-- For private functions: what a refused begin returns.
use Rattle.run.specs.State.{no_run}
use Rattle.run.specs.declared.refusal.Refusal.{Refusal}
use Rattle.run.specs.declared.state.Event.TheVariants as event
use Rattle.run.specs.declared.state.Returned.{Returned}

-- refused: no run
abbrev pub not_begun : Refusal → Returned
not_begun k = record { state = no_run; event = event.Refused k }
