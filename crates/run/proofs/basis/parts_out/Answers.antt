-- `parts_out` meets its contract: one part more is out in each turn.
use borrow.Author.Rules.{rules}
use Rattle.run.specs.Basis.{parts_out}
use Rattle.run.proofs.BasisLaws.{part_turn, part_is}
use Rattle.run.proofs.basis.parts_out.Goals as goal

pub loop-j-init : goal.loop-j-init
unfolding parts_out
loop-j-init c = search rules

pub loop-j-preserved : goal.loop-j-preserved
loop-j-preserved c =
    let a =
    c.args in
    let l = c.loop-j in (
      search rules,
      search rules,
      search rules,
      part_turn a.k a.r a.q.now _ l.j l.invariant.3 (part_is a.k
          a.r a.q.now l.v l.coefficients l.j c.row_dot.ensures c.choose-a.ensures c.minus_scaled.ensures c.put.ensures),
    )
