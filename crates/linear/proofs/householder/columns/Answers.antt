-- `columns` meets its contract: the slice starts with the scalars stored so far, and is else as it was.
use mathlib.Core.Path.{sym, ◌∙◌}
use Prim.Native.Nat.{◌+◌, ◌*◌}
use native.Mathlib.Nat.{le_antisymm}
use native.Mathlib.Omega.{arith}
use borrow.Author.Rules.{rules}
use Rattle.linear.specs.Householder.{column_entry, columns_of}
use Rattle.linear.proofs.Lists.{list_to-none, list_to-more, list_to-all}
use Rattle.linear.proofs.householder.columns.Goals as goal

pub loop-p-init : goal.loop-p-init
loop-p-init c = (search rules, search rules, sym (list_to-none _ _))

pub loop-p-preserved : goal.loop-p-preserved
loop-p-preserved c =
    let a = c.args in
    let e =
    rw (c.loop-p.invariant.2, c.column_entry.ensures) at c.put.ensures in (
      search rules,
      search rules,
      e ∙ list_to-more (column_entry a.m a.r a.rows.now a.rhs.now) c.loop-p.p a.cols.now
          (omega arith),
    )

pub returns : goal.returns
unfolding columns_of
returns c =
    let a = c.args in
    let e = rw (le_antisymm c.loop-p.invariant.0 c.loop-p-test.false) at c.loop-p.invariant.2 in
    e ∙ list_to-all (column_entry a.m a.r a.rows.now a.rhs.now) ((a.r + 1) * a.m) a.cols.now
    c.requires.1
