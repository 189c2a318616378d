-- For private functions: what a turn of the search answers.
use Rattle.std.specs.Prelude.{List, Float}
use Rattle.linear.specs.LinearResult.{number_of}
use Rattle.run.specs.Search.{Found, asks, stops, refuses}
use Rattle.run.specs.declared.damping.Damped.{Damped}
use Rattle.run.specs.declared.damping.Damped.TheVariants as d
use Rattle.run.specs.declared.search.Found as declared
use Rattle.run.specs.declared.search.Found.TheVariants as f
use Rattle.run.specs.declared.search.Turn.{Turn}
use Rattle.run.specs.declared.search.Turn.TheVariants as t
use Rattle.run.specs.declared.state.Search.{Search}

-- how the loop over dampings turns after a rejection
abbrev pub turn_of : Damped → Turn
turn_of (d.On x) = t.On x
turn_of (d.Stop x s) = t.Leave (f.Stop x s)

-- with what is written: the step, its multipliers and the point it leads to
abbrev pub found_result : declared.Found → List Float → List Float → List Float → Found
found_result (f.Ask x t) delta lambda next = asks x (record {
  delta = delta;
  lambda = lambda;
  next = next;
  predicted = t.predicted;
  tried = t.tried;
})
found_result (f.Stop x s) delta lambda next = stops x s
found_result (f.Refused x k) delta lambda next = refuses x (number_of k)

-- the same of a turn, with what follows where the loop continues
abbrev pub turn_result : Turn → (Search → Found) → List Float → List Float → List Float → Found
turn_result (t.On x) on delta lambda next = on x
turn_result (t.Leave f) on delta lambda next = found_result f delta lambda next
