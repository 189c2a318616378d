-- `all_finite` meets its contract: all so far are finite.
use borrow.Author.Rules.{rules}
use mathlib.Core.Path.{refl, sym}
use Rattle.run.specs.Vectors.{all_to}
use Rattle.run.proofs.VectorLaws.{all_turn, all_broke}
use Rattle.run.proofs.vectors.all_finite.Goals as goal

pub loop-i-init : goal.loop-i-init
unfolding all_to
loop-i-init c = (search rules, refl)

pub returns-then-not-is_finite : goal.returns-then-not-is_finite
returns-then-not-is_finite c =
    let l = c.loop-i in
    sym (all_broke _ l.i _ c.loop-i-test.true l.invariant.1
    (rw (← c.at.ensures, ← c.is_finite.ensures) c.if-not-is_finite.true))

pub loop-i-preserved : goal.loop-i-preserved
loop-i-preserved c =
    let l = c.loop-i in (
      search rules,
      all_turn _ l.i l.invariant.1
          (rw (← c.at.ensures, ← c.is_finite.ensures) c.if-not-is_finite.false),
    )
