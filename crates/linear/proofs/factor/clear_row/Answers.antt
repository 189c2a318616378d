-- `clear_row` meets its contract: the invariant is the definition at the columns passed.
use mathlib.Core.Path.{◌∙◌}
use native.Mathlib.Numerals.{add-one}
use borrow.Author.Rules.{rules}
use lib.Ieee.{of_bits}
use Rattle.linear.specs.CholeskyRows.{clear_row}
use Rattle.linear.proofs.factor.clear_row.Goals as goal

pub loop-k-init : goal.loop-k-init
unfolding clear_row
loop-k-init c = search rules

pub loop-k-preserved : goal.loop-k-preserved
unfolding clear_row of_bits
loop-k-preserved c = (
  search rules,
  search rules,
  c.put.ensures ∙ rw (
    add-one c.loop-k.k,
    ← c.loop-k.invariant.2,
  ),
)
