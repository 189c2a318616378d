-- `largest` meets its contract: the bounds are those of the greatest size so far.
use borrow.Author.Rules.{rules}
use lib.Ieee.{of_bits}
use Rattle.linear.proofs.LargestEnds.{largest_none, largest_more}
use Rattle.linear.proofs.norms.largest.Goals as goal

pub loop-i-init : goal.loop-i-init
unfolding of_bits
loop-i-init c = (search rules, largest_none _)

pub loop-i-preserved : goal.loop-i-preserved
loop-i-preserved c =
    let l = c.loop-i in
    let g = c.struct_known-1.given in (
      search rules,
      largest_more _ l.i l.invariant.1 (g.0, g.1.0) c.at-x.ensures c.greater_of-below.ensures
          c.greater_of-above.ensures,
    )
