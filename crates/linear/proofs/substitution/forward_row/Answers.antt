-- `forward_row` meets its contract: the definition's steps, from what each call gives.
use Rattle.linear.specs.Substitution.{forward_step}
use Rattle.linear.proofs.Sums.{along_start}
use Rattle.linear.proofs.substitution.forward_row.Goals as goal

pub returns-then-left_out-i : goal.returns-then-left_out-i
unfolding forward_step
returns-then-left_out-i c = rw c.if-left_out-i.true

pub returns : goal.returns
unfolding forward_step
returns c =
    let s = rw (c.in_row.ensures, c.in_row-2.ensures) at c.minus_dot-s.ensures in
    rw (
      c.if-left_out-i.false,
      ← c.at.ensures,
      ← along_start,
      ← s,
      ← c.at-2.ensures,
      ← c.div.ensures.value,
    ) c.store.ensures
