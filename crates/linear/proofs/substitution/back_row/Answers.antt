-- `back_row` meets its contract: the definition's steps, from what each call gives.
use Rattle.linear.specs.Substitution.{back_step}
use Rattle.linear.proofs.substitution.back_row.Goals as goal

pub returns-then-left_out-i : goal.returns-then-left_out-i
unfolding back_step
returns-then-left_out-i c = rw c.if-left_out-i.true

pub returns : goal.returns
unfolding back_step
returns c =
    let s = rw (c.in_column-p.ensures, c.in_row.ensures) at c.minus_dot-s.ensures in
    rw (
      c.if-left_out-i.false,
      ← c.at.ensures,
      ← s,
      ← c.at-2.ensures,
      ← c.div.ensures.value,
    ) c.store.ensures
