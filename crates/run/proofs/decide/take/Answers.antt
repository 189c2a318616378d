-- `take` meets its contract: it is known whether the constraints came near, and a third of the damping, or that is
-- refused.
use mathlib.Core.Bool.{true}
use mathlib.Core.Path.{◌≡◌, sym, ap, subst, ◌∙◌}
use lib.Ieee.{of_bits}
use Rattle.interval.specs.declared.Scalar.{Scalar}
use Rattle.interval.specs.Result.{result_of}
use Rattle.interval.specs.Scalar.{div_of}
use Rattle.interval.specs.Scaling.{is_positive}
use Rattle.interval.proofs.Given.{yes}
use Rattle.run.specs.Results.{truth_of}
use Rattle.run.proofs.DampingBounds.{shrunk_positive}
use Rattle.run.proofs.AnsweredLaws.{take_known, take_refused, third_known, third_refused}
use Rattle.run.proofs.decide.take.Goals as goal

pub take_with-requires : goal.take_with-requires
unfolding of_bits
take_with-requires c =
    let mu = c.args.st.search.mu in
    let g = c.well_formed.0.1.1.1.1.1.0.1.1.0.1.1 in
    let third = sym (c.div.ensures.value ∙ ap (λ (x : Scalar). div_of mu x) c.degenerate.ensures)
    ∙ ap result_of c.in-Ok-div.is in
    let u = c.requires.1 in
    let positive = shrunk_positive mu _ (yes g.0.1, yes g.1.0.1) u.bounded.damping third in
    (c.requires.0, u, subst (λ (x : Scalar). is_positive x ≡ true) (sym c.shrunk-mu.ensures) positive)

pub returns-in-Ok-div : goal.returns-in-Ok-div
unfolding of_bits
returns-in-Ok-div c w h =
    let a = c.args in
    let near = sym (c.linear_of.ensures w h.landed_is) ∙ ap truth_of
    c.in-Ok.is in
    let third = sym (c.div.ensures.value ∙ ap (λ (x : Scalar). div_of a.st.search.mu x) c.degenerate.ensures)
    ∙ ap result_of c.in-Ok-div.is in
    take_known a.st w a.theta a.span near
    (third_known a.st w a.theta a.span
    c.in-Ok.linear third c.shrunk-mu.ensures
    c.radius_after-radius.ensures (c.take_with.ensures w h))

pub returns-in-Err-div : goal.returns-in-Err-div
unfolding of_bits
returns-in-Err-div c w h =
    let a = c.args in
    let near = sym (c.linear_of.ensures w h.landed_is) ∙ ap truth_of
    c.in-Ok.is in
    let third = sym (c.div.ensures.value ∙ ap (λ (x : Scalar). div_of a.st.search.mu x) c.degenerate.ensures)
    ∙ ap result_of c.in-Err-div.is in
    take_known a.st w a.theta a.span near
    (third_refused a.st w a.theta a.span
    c.in-Ok.linear third
    (rw c.from.ensures at (c.refuse.ensures w h.from-standing.within)))

pub returns-in-Err : goal.returns-in-Err
returns-in-Err c w h =
    let a = c.args in
    let near = sym (c.linear_of.ensures w h.landed_is) ∙ ap
    truth_of c.in-Err.is in
    take_refused a.st w a.theta a.span near (c.refuse-in-Err.ensures w h.from-standing.within)
