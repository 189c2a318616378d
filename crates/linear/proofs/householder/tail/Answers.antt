-- `tail` meets its contract: the slice starts with the scalars stored so far, and is else as it was.
use mathlib.Core.Path.{sym, ◌∙◌}
use Prim.Native.Nat.{◌+◌, ◌*◌, ◌-◌}
use native.Mathlib.Nat.{le_antisymm}
use native.Mathlib.Omega.{arith}
use borrow.Author.Rules.{rules}
use Rattle.linear.specs.Flat.{along}
use Rattle.linear.specs.Householder.{tail_of}
use Rattle.linear.proofs.Lists.{list_to-none, list_to-more, list_to-all}
use Rattle.linear.proofs.Sums.{along_row}
use Rattle.linear.proofs.householder.tail.Goals as goal

pub loop-k-init : goal.loop-k-init
loop-k-init c = (search rules, search rules, sym (list_to-none _ _))

pub loop-k-preserved : goal.loop-k-preserved
loop-k-preserved c =
    let a = c.args in
    let e = rw (
      c.loop-k.invariant.2,
      c.at.ensures,
      ← along_row a.cols.now (a.j * a.m + a.j) c.loop-k.k,
    ) at c.put.ensures in (
      search rules,
      search rules,
      e ∙ list_to-more (along a.cols.now (a.j * a.m + a.j) 1) c.loop-k.k a.x.now (omega arith),
    )

pub returns : goal.returns
unfolding tail_of
returns c =
    let a = c.args in
    let e = rw (le_antisymm c.loop-k.invariant.0 c.loop-k-test.false) at c.loop-k.invariant.2 in
    e ∙ list_to-all (along a.cols.now (a.j * a.m + a.j) 1) (a.m - a.j) a.x.now c.requires.2
