-- `reflect_all` meets its contract: the invariant is the fold at the columns passed, not refused.
use Prim.Native.Nat.{◌+◌, ◌*◌, ◌-◌}
use borrow.Author.Rules.{rules}
use Rattle.linear.specs.Results.{fold_r}
use Rattle.linear.specs.Householder.{reflect_to, reflect_step}
use Rattle.linear.proofs.Turns.{went_on, broke_off}
use Rattle.linear.proofs.householder.reflect_all.Goals as goal

pub loop-t-init : goal.loop-t-init
unfolding reflect_to fold_r
loop-t-init c = search rules

pub returns-in_err-reflect : goal.returns-in_err-reflect
unfolding reflect_to
returns-in_err-reflect c =
    broke_off _ _ _ _ c.loop-t-test.true c.loop-t.invariant.2 c.reflect.ensures c.in_err-reflect.was
    c.from_residual.ensures.1

pub loop-t-preserved : goal.loop-t-preserved
unfolding reflect_to
loop-t-preserved c =
    let a = c.args in
    let l = c.loop-t in (
      search rules,
      search rules,
      went_on (λ x t. reflect_step a.v.now a.vv (a.m - a.j) ((a.j + t) * a.m + a.j) x) _ l.invariant.2
          c.reflect.ensures c.in_ok-reflect.was,
    )
