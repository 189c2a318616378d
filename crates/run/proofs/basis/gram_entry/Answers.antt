-- `gram_entry` meets its contract: the definition's steps, from what each call gives.
use Rattle.run.specs.Basis.{gram_step}
use Rattle.run.proofs.basis.gram_entry.Goals as goal

pub returns : goal.returns
unfolding gram_step
returns c =
    let s = rw (
      c.in_row.ensures,
      c.in_row-2.ensures,
    ) at c.minus_dot-s.ensures in
    rw (
      ← c.row_dot-z.ensures,
      ← s,
      ← c.at-d.ensures,
      ← c.div.ensures.value,
    ) c.store.ensures
