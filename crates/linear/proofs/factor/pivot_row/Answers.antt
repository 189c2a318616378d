-- `pivot_row` meets its contract: the definition's steps, from what each call gives.
use Rattle.linear.specs.CholeskyRows.{pivot_step}
use Rattle.linear.proofs.factor.pivot_row.Goals as goal

pub returns : goal.returns
unfolding pivot_step
returns c =
    rw (
      ← c.at.ensures,
      ← c.rows_minus-s.ensures,
      ← c.pivot_of.ensures,
    ) c.store_pivot.ensures
