-- `radius_after` meets its contract: each way out is the definition's.
use Rattle.interval.specs.Scalar.{pick, upper, definitely_less}
use mathlib.Core.Bool.{Bool, ◌||◌}
use mathlib.Core.Path.{sym, ap, ◌∙◌}
use lib.Ieee.{of_bits}
use Rattle.run.proofs.DecideLaws.{reach_far, reach_near}
use Rattle.run.proofs.radius.radius_after.Goals as goal

pub returns-then-not-definitely_greater : goal.returns-then-not-definitely_greater
unfolding of_bits
returns-then-not-definitely_greater c =
    let a = c.args in
    reach_near a.length a.radius a.max c.mul-reach.ensures.value a.linear
    c.definitely_greater.ensures c.if-not-definitely_greater.true

pub returns-then-linear : goal.returns-then-linear
unfolding of_bits
returns-then-linear c =
    let a = c.args in
    let twice = c.mul-reach.result in
    c.upper.ensures ∙ ap (λ (b : Bool). pick (b || definitely_less twice a.max) (upper twice) a.max)
    (sym c.if-linear.true) ∙ reach_far a.length a.radius a.max
    c.mul-reach.ensures.value a.linear
    c.definitely_greater.ensures c.if-not-definitely_greater.false

pub returns-then-definitely_less : goal.returns-then-definitely_less
unfolding of_bits
returns-then-definitely_less c =
    let a = c.args in
    let twice = c.mul-reach.result in
    c.upper-then-definitely_less.ensures ∙ ap (λ (b : Bool). pick b (upper twice) a.max) (sym c.if-definitely_less.true
    ∙ c.definitely_less.ensures)
    ∙ ap (λ (b : Bool). pick (b || definitely_less twice a.max) (upper twice) a.max)
    (sym c.if-linear.false) ∙ reach_far a.length a.radius a.max
    c.mul-reach.ensures.value a.linear
    c.definitely_greater.ensures
    c.if-not-definitely_greater.false

pub returns : goal.returns
unfolding of_bits
returns c =
    let a = c.args in
    let twice = c.mul-reach.result in
    ap (λ (b : Bool). pick b (upper twice) a.max) (sym c.if-definitely_less.false ∙ c.definitely_less.ensures)
    ∙ ap (λ (b : Bool). pick (b || definitely_less twice a.max) (upper twice) a.max)
    (sym c.if-linear.false) ∙ reach_far a.length a.radius a.max
    c.mul-reach.ensures.value a.linear
    c.definitely_greater.ensures
    c.if-not-definitely_greater.false
