-- `gram_row` meets its contract: the rows above are in place, and the row up to the column.
use Prim.Native.Nat.{◌*◌, ◌<◌}
use mathlib.Core.Path.{◌≡◌, ◌∙◌}
use native.Mathlib.Omega.{arith}
use borrow.Author.Rules.{rules}
use lib.ListN.{length}
use Rattle.linear.specs.Solved.{gram_at}
use Rattle.linear.proofs.GramRows.{filled_one}
use Rattle.linear.proofs.solved.gram_row.Goals as goal

pub loop-j-preserved : goal.loop-j-preserved
loop-j-preserved c =
    let l = c.loop-j in
    let a = c.args in
    let ht : l.j < a.m = omega (arith, c.loop-j-test.true, c.requires) in
    let size : length l.g ≡ 2 * (a.m * a.m) = l.invariant.1 ∙ c.requires.1 in
    let fill = filled_one (gram_at a.n a.jc.now) a.m a.i l.j l.g ht size
    c.row_dot.ensures c.requires.2 l.invariant.2 in (
      omega (arith, c.loop-j-test.true),
      search rules,
      rw
          c.put.ensures fill,
    )
