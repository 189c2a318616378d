-- `squares_times` meets its contract: the bounds are those of the squares so far, and proper.
use mathlib.Core.Path.{ap, ◌∙◌}
use native.Mathlib.Nat.{le_antisymm}
use borrow.Author.Rules.{rules}
use lib.Ieee.{of_bits}
use Rattle.interval.specs.declared.Scalar.{Scalar}
use Rattle.interval.specs.Scalar.{mul_of}
use Rattle.linear.specs.Dot.{plus_to}
use Rattle.linear.proofs.BoundLaws.{bounds_back}
use Rattle.linear.proofs.SumBounds.{zero_bounds, plus_more}
use Rattle.linear.proofs.norms.squares_times.Goals as goal

pub loop-j-init : goal.loop-j-init
unfolding plus_to of_bits
loop-j-init c = (search rules, zero_bounds c.bounds_of-sum.ensures)

pub loop-j-preserved : goal.loop-j-preserved
loop-j-preserved c =
    let l = c.loop-j in
    let a = c.args in
    let q = c.mul.ensures.value ∙ ap (λ (x : Scalar). mul_of x a.i) c.at.ensures in
    (search rules, plus_more _ _ _ l.j l.invariant.1 q q c.plus_square-sum.ensures)

pub returns : goal.returns
returns c =
    let l = c.loop-j in
    let e = le_antisymm l.invariant.0 c.loop-j-test.false in
    rw e at (c.scalar_of.ensures ∙ bounds_back l.invariant.1.value)
