-- `rank_one` meets its contract: the invariant is the fold at the entries passed, not refused.
use mathlib.Core.Path.{refl, sym}
use native.Mathlib.Nat.{le_antisymm}
use borrow.Author.Rules.{rules}
use Rattle.linear.specs.Results.{fold_r}
use Rattle.linear.proofs.Turns.{went_on, broke_off}
use Rattle.run.specs.Curvature.{rank_one_of}
use Rattle.run.proofs.curvature.rank_one.Goals as goal

pub loop-p-init : goal.loop-p-init
unfolding fold_r
loop-p-init c = (search rules, search rules, λ vs e. refl)

pub returns-in_err-rank_one_at : goal.returns-in_err-rank_one_at
unfolding rank_one_of
returns-in_err-rank_one_at c =
    let vs = c.args.vs in
    let e = c.inverse-inverse.ensures in
    broke_off _ _ _ _ c.loop-p-test.true
    (c.loop-p.invariant.2 vs e)
    (c.rank_one_at.ensures vs e) c.in_err-rank_one_at.was c.from_residual.ensures.1

pub loop-p-preserved : goal.loop-p-preserved
loop-p-preserved c = (
  search rules,
  search rules,
  λ vs e.
      went_on _ _ (c.loop-p.invariant.2 vs e)
      (c.rank_one_at.ensures vs e) c.in_ok-rank_one_at.was,
)

pub returns : goal.returns
unfolding rank_one_of
returns c =
    let e = c.loop-p.invariant.2 c.args.vs
    c.inverse-inverse.ensures in
    sym (rw (le_antisymm c.loop-p.invariant.0 c.loop-p-test.false) at e)
