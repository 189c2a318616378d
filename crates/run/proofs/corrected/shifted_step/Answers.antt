-- `shifted_step` meets its contract: the step is filled so far, and read where it is not.
use mathlib.Core.Path.{sym, ◌∙◌}
use native.Mathlib.Nat.{le_antisymm}
use borrow.Author.Rules.{rules}
use Rattle.run.specs.Corrected.{shifted_step}
use Rattle.run.proofs.PointLaws.{sharp_sum, sharp-sum}
use Rattle.run.proofs.VectorLaws.{fill_none, fill_first, at_next}
use Rattle.run.proofs.corrected.shifted_step.Goals as goal

pub loop-i-init : goal.loop-i-init
loop-i-init c = (search rules, search rules, sym (fill_none _ _))

pub loop-i-preserved : goal.loop-i-preserved
loop-i-preserved c =
    let a = c.args in
    let l = c.loop-i in
    let f = sharp_sum a.step.now a.d.now in
    let now = c.at-v.ensures
    ∙ at_next a.step.now f l.i l.invariant.2 in
    let sum =
    sharp-sum a.step.now a.d.now l.i now c.at.ensures
    c.add-w.ensures.value
    c.sharpen.ensures in
    let filled = c.put.ensures ∙ fill_first a.step.now f l.i l.invariant.2 sum in
    (search rules, search rules, filled)

pub returns : goal.returns
unfolding shifted_step
returns c = rw (le_antisymm c.loop-i.invariant.0 c.loop-i-test.false) at c.loop-i.invariant.2
