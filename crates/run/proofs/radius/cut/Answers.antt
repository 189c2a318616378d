-- `cut` meets its contract: the first places are filled, and the place that is read is still as it was.
use mathlib.Core.Path.{◌≡◌, refl, ap, ◌∙◌}
use Prim.Native.Nat.{ℕ, ◌+◌}
use native.Mathlib.Nat.{le_antisymm}
use native.Mathlib.Omega.{arith}
use borrow.Author.Rules.{rules}
use Rattle.interval.specs.declared.Scalar.{Scalar}
use Rattle.interval.specs.Scalar.{mul_of}
use Rattle.linear.specs.Choose.{choose_of}
use Rattle.linear.specs.Flat.{at}
use Rattle.run.specs.Radius.{cut_of}
use Rattle.run.specs.Vectors.{fill_to}
use Rattle.run.proofs.VectorLaws.{fill_turn, at_fill_ahead}
use Rattle.run.proofs.radius.cut.Goals as goal

pub loop-i-init : goal.loop-i-init
unfolding fill_to
loop-i-init c = (omega arith, refl, refl)

pub loop-i-preserved : goal.loop-i-preserved
loop-i-preserved c =
    let l = c.loop-i in
    let a = c.args in
    let f : ℕ → Scalar = λ j. choose_of (mul_of (at a.delta.now j) a.shrink) in
    let z : 0 + l.i ≡ l.i = omega arith in
    let r : c.at-d.result
    ≡ at a.delta.now l.i = c.at-d.ensures
    ∙ rw l.invariant.2 (rw z at (at_fill_ahead a.delta.now 0 f l.i l.i (omega arith))) in
    let v : c.choose.result ≡ f l.i = c.choose.ensures
    ∙ ap choose_of (c.mul.ensures.value ∙ ap (λ (s : Scalar). mul_of s a.shrink)
    r) in (
      search rules,
      search rules,
      c.put.ensures
          ∙ rw z at (fill_turn a.delta.now 0 f l.i l.invariant.2 v),
    )

pub returns : goal.returns
unfolding cut_of
returns c = rw (le_antisymm c.loop-i.invariant.0 c.loop-i-test.false) at c.loop-i.invariant.2
