-- `lagrangian_change` meets its contract: the sum's new values, chosen, into a clear array, and then the vector is
-- filled so far.
use mathlib.Core.Path.{refl, sym, ◌∙◌}
use native.Mathlib.Nat.{le_antisymm}
use lib.Ieee.{of_bits}
use Rattle.run.specs.Rows.{evaluation_of}
use Rattle.run.proofs.CurvatureLaws.{turned_is}
use Rattle.run.proofs.VectorLaws.{fill_none, fill_first}
use borrow.Author.Rules.{rules}
use Rattle.run.proofs.curvature.lagrangian_change.Goals as goal

pub loop-j-init : goal.loop-j-init
loop-j-init c = (
  search rules,
  search rules,
  c.requires.2
      ∙ sym (fill_none _ _),
)

pub loop-j-preserved : goal.loop-j-preserved
loop-j-preserved c =
    let l = c.loop-j in
    let filled = fill_first _ _ l.j l.invariant.2 c.lagrangian_change_at.ensures in
    (search rules, search rules, c.put.ensures ∙ filled)

pub returns : goal.returns
unfolding of_bits
returns c =
    let a = c.args in
    let r = rw c.sum.ensures
    at c.chosen_values.ensures in
    turned_is a.c.n (evaluation_of a.c a.xs.now) (evaluation_of a.d a.next.now) a.lambda.now refl r
    (rw (le_antisymm c.loop-j.invariant.0 c.loop-j-test.false) at c.loop-j.invariant.2)
