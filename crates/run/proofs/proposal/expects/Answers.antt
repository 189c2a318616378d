-- `expects` meets its contract: the test decides whether the violation is asked.
use mathlib.Core.Bool.{Bool}
use mathlib.Core.List.{List}
use mathlib.Core.Path.{◌≡◌, ap, ◌∙◌}
use lib.Ieee.{Float, of_bits}
use Rattle.interval.specs.declared.Scalar.{Scalar}
use Rattle.interval.specs.Scalar.{zero_s, sub_of, definitely_greater}
use Rattle.run.specs.Proposal.{curvature_along, expects_of}
use Rattle.run.specs.Rows.{rows_in, sum_of, sum_set}
use Rattle.run.specs.Residuals.{squared_of}
use Rattle.run.specs.declared.proposal.StandingPoint.{StandingPoint}
use Rattle.run.specs.declared.rows.RowSet.{RowSet}
use Rattle.run.proofs.proposal.expects.Goals as goal

-- the drop of the sum, less what the curvature bends
dropped : (p : StandingPoint) (rows b delta : List Float) {e : RowSet} {left fall bent drop : Scalar} {d : Bool}
    → e ≡ sum_set p.counts → left ≡ squared_of (rows_in rows e) delta p.counts.n → fall ≡ sub_of p.f left
    → bent ≡ curvature_along p.counts.n b delta → drop ≡ sub_of fall bent → d ≡ definitely_greater drop zero_s
    → d ≡ definitely_greater (sub_of (sub_of p.f (squared_of (sum_of p.counts rows) delta p.counts.n))
    (curvature_along p.counts.n b delta)) zero_s
dropped p rows b delta {bent = v} ee el ef eb ed et =
    let left = el ∙ ap (λ (r : RowSet). squared_of (rows_in rows r) delta p.counts.n) ee in
    let fall = ef ∙ ap (λ (x : Scalar). sub_of p.f x) left in
    et ∙ ap (λ (x : Scalar). definitely_greater x zero_s) (ed ∙ ap (λ (x : Scalar). sub_of x v) fall
    ∙ ap (λ (x : Scalar). sub_of (sub_of p.f (squared_of (sum_of p.counts rows) delta p.counts.n)) x) eb)

pub returns-then-definitely_greater : goal.returns-then-definitely_greater
unfolding expects_of of_bits
returns-then-definitely_greater c =
    let a = c.args in
    let d = dropped a.point a.rows.now a.b.now a.delta.now c.sum.ensures c.squared-left.ensures c.sub.ensures.value
    c.curvature_along.ensures c.sub-drop.ensures.value c.definitely_greater.ensures in
    rw (← d, c.if-definitely_greater.true)

pub returns : goal.returns
unfolding expects_of of_bits
returns c =
    let a = c.args in
    let d = dropped a.point a.rows.now a.b.now a.delta.now c.sum.ensures c.squared-left.ensures c.sub.ensures.value
    c.curvature_along.ensures c.sub-drop.ensures.value c.definitely_greater.ensures in
    rw (← d, c.if-definitely_greater.false, ← c.predicted.ensures) c.falls.ensures
