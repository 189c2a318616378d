-- `entry` meets its contract: the definition's steps, from what each call gives.
use Rattle.linear.specs.CholeskyRows.{entry_step}
use Rattle.linear.proofs.factor.entry.Goals as goal

pub returns-then-left_out-j : goal.returns-then-left_out-j
unfolding entry_step
returns-then-left_out-j c = rw c.if-left_out-j.true

pub returns : goal.returns
unfolding entry_step
returns c =
    rw (
      c.if-left_out-j.false,
      ← c.at.ensures,
      ← c.rows_minus-s.ensures,
      ← c.at-2.ensures,
      ← c.div.ensures.value,
    ) c.store.ensures
