-- `plus_cut` meets its contract: the sum is that of the products so far, and each place is its run's, or outside the
-- slice.
use mathlib.Core.Path.{◌∙◌}
use borrow.Author.Rules.{rules}
use Rattle.linear.specs.Flat.{along}
use Rattle.linear.specs.Dot.{plus_to}
use Rattle.linear.proofs.Sums.{plus_to-more}
use Rattle.linear.proofs.Walks.{at_cut, cut_none, cut_more}
use Rattle.linear.proofs.dots.plus_cut.Goals as goal

pub loop-init : goal.loop-init
unfolding plus_to
loop-init c = (search rules, search rules, cut_none _ _ _, cut_none _ _ _)

pub loop-preserved : goal.loop-preserved
unfolding along
loop-preserved c =
    let l = c.loop in
    let a = c.args in (
      search rules,
      plus_to-more _ _ _ l.counter l.invariant.1 (c.at.ensures ∙ at_cut a.a.now l.invariant.2)
          (c.at-in-loop.ensures ∙ at_cut a.b.now l.invariant.3) c.mul.ensures.value
          c.add-sum.ensures.value,
      cut_more _ _ _ l.counter l.invariant.2 c.ahead-p.ensures,
      cut_more _ _ _ l.counter l.invariant.3 c.ahead-q.ensures,
    )
