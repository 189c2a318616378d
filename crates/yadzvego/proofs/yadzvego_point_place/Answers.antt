-- `yadzvego_point_place` meets its contract: 0 where there is none, else by the phase.
use mathlib.Core.Path.{◌∙◌, sym, ap}
use borrow.Author.Tests.{not-true, not-false}
use Rattle.run.specs.Area.{point_at}
use Rattle.run.specs.declared.state.State.{State}
use Rattle.yadzvego.specs.Exports.{point_place}
use borrow.Author.Rules.{rules}
use Rattle.yadzvego.proofs.yadzvego_point_place.Goals as goal

pub returns-then-not-has_point : goal.returns-then-not-has_point
unfolding point_place
returns-then-not-has_point c = rw (sym c.has_point.ensures ∙ c.if-not-has_point.true)

pub returns : goal.returns
unfolding point_place
returns c = rw (sym c.has_point.ensures ∙ c.if-not-has_point.false)
    (c.point_place.ensures ∙ ap (λ (st : State). point_at st.sizes st.phase) c.state_at.ensures)
