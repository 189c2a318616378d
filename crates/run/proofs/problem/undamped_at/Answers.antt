-- `undamped_at` meets its contract: on the diagonal the sum, elsewhere chosen.
use Rattle.run.proofs.ProblemLaws.{undamped_on, undamped_off}
use Rattle.run.proofs.problem.undamped_at.Goals as goal

pub returns-then-i-j : goal.returns-then-i-j
returns-then-i-j c =
    undamped_on _ _ _ _ _ (rw (c.in_column.ensures, c.in_column-2.ensures)
    at c.plus_dot-v.ensures) c.if-i-j.true

pub returns : goal.returns
returns c =
    undamped_off _ _ _ _ _ (rw (
      c.in_column.ensures,
      c.in_column-2.ensures,
    ) at c.plus_dot-v.ensures) c.if-i-j.false c.choose.ensures
