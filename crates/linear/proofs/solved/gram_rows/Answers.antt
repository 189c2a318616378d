-- `gram_rows` meets its contract: the rows above are in place, and both rows up to the column.
use Prim.Native.Nat.{◌*◌, ◌<◌}
use mathlib.Core.Path.{◌≡◌, ◌∙◌}
use native.Mathlib.Omega.{arith}
use borrow.Author.Rules.{rules}
use lib.ListN.{length}
use Rattle.linear.specs.Solved.{gram_at}
use Rattle.linear.proofs.GramRows.{filled_two, second_row}
use Rattle.linear.proofs.solved.gram_rows.Goals as goal

pub loop-j-preserved : goal.loop-j-preserved
loop-j-preserved c =
    let l = c.loop-j in
    let a = c.args in
    let d = c.two_rows-d.ensures in
    let ht : l.j < a.m = omega
    (arith, c.loop-j-test.true, c.requires) in
    let size : length l.g ≡ 2 * (a.m * a.m) = l.invariant.1 ∙ c.requires.1 in
    let fill = filled_two (gram_at a.n a.jc.now) a.m a.i l.j l.g ht size d.0 c.requires.2
    (second_row a.n a.jc.now a.i l.j d.1) l.invariant.2 in (
      omega (arith, c.loop-j-test.true),
      search rules,
      rw
          (c.put-in-loop-j.ensures, c.put.ensures) fill,
    )
