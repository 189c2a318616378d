-- `gradient` meets its contract: the values chosen, into a clear array, then one place more is filled in each turn.
use mathlib.Core.Path.{ap, ◌∙◌}
use native.Mathlib.Nat.{le_antisymm}
use lib.Ieee.{of_bits}
use lib.ListN.{get_or}
use Rattle.linear.specs.Choose.{choose_of}
use Rattle.linear.specs.Dot.{dot_to}
use Rattle.linear.specs.Flat.{at}
use Rattle.run.specs.Rows.{rows_in, slopes_by}
use Rattle.run.specs.Residuals.{transposed_at}
use Rattle.run.specs.Vectors.{fill_to}
use Rattle.run.proofs.VectorLaws.{fill_turn}
use borrow.Author.Rules.{rules}
use Rattle.run.proofs.problem.gradient.Goals as goal

pub loop-p-init : goal.loop-p-init
unfolding fill_to
loop-p-init c = search rules

pub loop-p-preserved : goal.loop-p-preserved
unfolding transposed_at
loop-p-preserved c =
    let a = c.args in
    let r = c.chosen_values.new.out in
    let l = c.loop-p in (
      search rules,
      search rules,
      c.put.ensures
          ∙ fill_turn a.undamped.now 156
          (λ j. choose_of (dot_to (slopes_by (rows_in a.xs.now a.e) (get_or a.index.now j 0)) (at r)
          a.e.count))
          l.p l.invariant.2 (c.choose.ensures
          ∙ ap choose_of c.transposed_at.ensures),
    )

pub returns : goal.returns
unfolding of_bits
returns c =
    let i = rw (le_antisymm c.loop-p.invariant.0 c.loop-p-test.false) at c.loop-p.invariant.2 in
    rw c.chosen_values.ensures at i
