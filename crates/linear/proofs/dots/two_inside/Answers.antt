-- `two_inside` meets its contract: from where the points end the bounds are those of both sums so far.
use mathlib.Core.Path.{sym, ◌∙◌}
use borrow.Author.Rules.{rules}
use Rattle.linear.specs.Flat.{along}
use Rattle.linear.proofs.Sums.{along_row}
use Rattle.linear.proofs.SumBounds.{gone_more, gone_last}
use Rattle.linear.proofs.dots.two_inside.Goals as goal

pub loop-t-preserved : goal.loop-t-preserved
unfolding along
loop-t-preserved c =
    let l = c.loop-t in
    let w = c.at_inside-w.ensures ∙ sym (along_row _ _ l.t) in (
      search rules,
      gone_more _ _ _ _ l.t l.invariant.1 c.at_inside.ensures w
          c.plus_product-first.ensures,
      gone_more _ _ _ _ l.t l.invariant.2
          c.at_inside-in-loop-t.ensures w c.plus_product-second.ensures,
    )

pub returns : goal.returns
returns c =
    let l = c.loop-t in
    let b = c.two_points_inside-begun.ensures in
    let e = c.loop-t-test.false in (
      gone_last _ _ _ _ _ _ _ _ l.invariant.1 b.1 l.invariant.0 e c.scalar_of.ensures,
      gone_last _ _ _ _ _ _ _ _ l.invariant.2 b.2 l.invariant.0 e c.scalar_of-2.ensures,
    )
