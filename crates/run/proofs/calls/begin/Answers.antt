-- `begin` meets its contract: the first check that it does not pass refuses it, and what passes them all has begun.
use Rattle.std.specs.Prelude.{Some}
use mathlib.Core.List.{List}
use mathlib.Core.Path.{◌≡◌, ◌∙◌, ap, sym}
use lib.Ieee.{Float}
use Rattle.interval.specs.declared.Scalar.{Scalar}
use Rattle.run.specs.Area.{area_of, begun_memory}
use Rattle.run.specs.Calls.{after_call, begun_of}
use Rattle.run.specs.Damping.{first_mu}
use Rattle.run.specs.State.{state_with}
use Rattle.run.specs.declared.state.Event.TheVariants as event
use Rattle.run.specs.declared.state.Kind.TheVariants as kind
use Rattle.run.specs.declared.state.Returned.{Returned}
use Rattle.run.specs.declared.state.Sizes.{Sizes}
use Rattle.run.specs.declared.state.State.{State}
use Rattle.run.proofs.CallLaws.{begin_refused, begin_passed}
use Rattle.run.proofs.calls.begin.Goals as goal

-- a run that has begun, of equal parts
begun : {z : Sizes} {mu max : Scalar} {st : State} {a : List Float} (start : List Float)
    → st ≡ state_with z mu max (Some kind.Start) → mu ≡ first_mu → a ≡ area_of z (begun_memory start)
    → after_call (record { state = st; event = event.Question 0 kind.Start 0 }) a ≡ begun_of z start max
begun start es em ea = rw (es, em, ea)

pub returns-in-Err : goal.returns-in-Err
returns-in-Err c =
    let a = c.args in
    ap (λ (r : Returned). after_call r a.area.now) c.not_begun.ensures
    ∙ begin_refused (record { n = a.n; s = a.s; limit = a.limit }) a.start.now a.max_step a.area.now
    (sym c.in-Err.is ∙ c.check_begin.ensures)

pub returns : goal.returns
returns c =
    let a = c.args in
    let z : Sizes = record { n = a.n; s = a.s; limit = a.limit } in
    begun a.start.now c.state_with-state.ensures c.first_damping-mu.ensures
    c.write_begun.ensures.is
    ∙ begin_passed z a.start.now a.max_step a.area.now (sym c.in_default.is ∙ c.check_begin.ensures)
