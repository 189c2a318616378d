-- The next iteration (PROTOCOL, An iteration): the search from the standing point, until a question, the finish, or a
-- refusal.
use Rattle.std.specs.Prelude.{leb}
use Rattle.interval.specs.Scalar.{pick}
use Rattle.interval.specs.declared.Scalar.{Scalar}
use Rattle.run.specs.Area.{Memory, standing_at, curvature_of, with_trial}
use Rattle.run.specs.Endings.{AfterSlots, finish, refuse, question, or_refuse}
use Rattle.run.specs.Proposal.{Standing}
use Rattle.run.specs.Residuals.{sum_squared, violation_of}
use Rattle.run.specs.Search.{Found, asks, stops, refuses, search_of}
use Rattle.run.specs.State.{searching, trying}
use Rattle.run.specs.declared.state.Kind.TheVariants as kind
use Rattle.run.specs.declared.state.State.{State}
use Rattle.run.specs.declared.state.Stop.TheVariants as stop

-- what the search stands on, with the violation of the standing point
abbrev pub standing_of : State → Memory → Scalar → Standing
standing_of st w theta = record {
  n = st.sizes.n;
  x = w.standing;
  e = standing_at st w;
  f = sum_squared (standing_at st w).sum;
  theta = theta;
  b = curvature_of st w;
  moving = st.moving;
}

-- the event where a search is left
unfoldable pub left_at : State → Memory → Found → AfterSlots
left_at st w (asks x t) = question (trying st x t) (with_trial st w t.next t.delta t.lambda) kind.Trial 0
left_at st w (stops x s) = finish (searching st x) w s
left_at st w (refuses x k) = refuse (searching st x) w k

-- the search from the standing point; a violation that is refused ends the run
unfoldable pub search : State → Memory → AfterSlots
search st w =
    or_refuse st w (violation_of (standing_at st w).constraints)
    (λ theta. left_at st w (search_of (standing_of st w theta) st.max_step st.search))

-- a new iteration, or the finish with Budget where the limit is reached
unfoldable pub iterate : State → Memory → AfterSlots
iterate st w = pick (leb st.sizes.limit st.counts.iterations) (finish st w stop.Budget) (search st w)
