-- `depends_on` meets its contract: no slope so far is definitely not zero.
use borrow.Author.Rules.{rules}
use mathlib.Core.Path.{refl, sym}
use native.Mathlib.Nat.{le_antisymm}
use lib.Ieee.{of_bits}
use Rattle.run.specs.Vectors.{any_to}
use Rattle.run.specs.Residuals.{depends_on}
use Rattle.run.proofs.VectorLaws.{any_turn, any_broke}
use Rattle.run.proofs.residuals.depends_on.Goals as goal

pub loop-i-init : goal.loop-i-init
unfolding any_to
loop-i-init c = (search rules, refl)

pub returns-then-definitely_not_equal : goal.returns-then-definitely_not_equal
unfolding depends_on of_bits
returns-then-definitely_not_equal c =
    let l = c.loop-i in
    sym (any_broke _ l.i _ c.loop-i-test.true l.invariant.1
    (rw (← c.slope_of.ensures, ← c.definitely_not_equal.ensures) c.if-definitely_not_equal.true))

pub loop-i-preserved : goal.loop-i-preserved
unfolding of_bits
loop-i-preserved c =
    let l = c.loop-i in (
      search rules,
      any_turn _ l.i l.invariant.1
          (rw (← c.slope_of.ensures, ← c.definitely_not_equal.ensures) c.if-definitely_not_equal.false),
    )

pub returns : goal.returns
unfolding depends_on
returns c = sym (rw (le_antisymm c.loop-i.invariant.0 c.loop-i-test.false) at c.loop-i.invariant.1)
