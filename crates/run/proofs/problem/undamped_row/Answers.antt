-- `undamped_row` meets its contract: one place more is filled in each turn.
use borrow.Author.Rules.{rules}
use mathlib.Core.Path.{sym, ap, ◌∙◌}
use Prim.Native.Nat.{◌*◌}
use native.Mathlib.Nat.{le_trans}
use lib.ListN.{get_or}
use Rattle.interval.specs.declared.Scalar.{Scalar}
use Rattle.run.specs.program.Problem.{undamped_at, undamped_between}
use Rattle.run.specs.Vectors.{fill_to}
use Rattle.run.proofs.ProblemLaws.{curvature-along}
use Rattle.run.proofs.VectorLaws.{fill_turn}
use Rattle.run.proofs.Symmetry.{across_kept}
use Rattle.run.proofs.problem.undamped_row.Goals as goal

pub loop-j-init : goal.loop-j-init
unfolding fill_to
loop-j-init c = search rules

pub undamped_from-v-requires : goal.undamped_from-v-requires
undamped_from-v-requires c =
    let a = c.args in
    let p = c.requires in
    let l = c.loop-j in
    let hi = le_trans p.2 p.0 in
    let e = c.along-across.ensures
    ∙ curvature-along a.n a.b.now (get_or a.index.now l.j 0) (get_or a.index.now a.i 0) in (
      hi,
      le_trans c.loop-j-test.true p.0,
      λ q.
          across_kept a.h.now (undamped_between a.n a.index.now a.jr.now a.s a.b.now a.i) a.i
          l.j l.invariant.2 hi q
          ∙ p.3 l.j a.i q p.2
          ∙ ap (λ (z : Scalar). undamped_at a.jr.now a.s z l.j a.i) (sym e),
    )

pub loop-j-preserved : goal.loop-j-preserved
loop-j-preserved c =
    let a = c.args in
    let l = c.loop-j in
    let v = c.along-start.ensures
    ∙ curvature-along a.n a.b.now (get_or a.index.now a.i 0) (get_or a.index.now l.j 0) in
    let e = c.undamped_from-v.ensures ∙ ap (λ (z : Scalar). undamped_at a.jr.now
    a.s z a.i l.j) v in (
      search rules,
      search rules,
      c.put.ensures
          ∙ fill_turn a.h.now (12 * a.i) (undamped_between a.n a.index.now a.jr.now a.s a.b.now
          a.i)
          l.j
          l.invariant.2 e,
    )
