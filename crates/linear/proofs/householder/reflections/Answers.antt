-- `reflections` meets its contract: the invariant is the fold at the columns passed, not refused.
use mathlib.Core.Path.{◌∙◌}
use Prim.Native.Nat.{◌*◌, ◌-◌}
use borrow.Author.Rules.{rules}
use lib.Seq.{length_front}
use Rattle.linear.specs.Results.{fold_r}
use Rattle.linear.proofs.Turns.{went_on, broke_off}
use Rattle.linear.proofs.householder.reflections.Goals as goal

pub loop-j-init : goal.loop-j-init
unfolding fold_r
loop-j-init c = search rules

pub returns-in_err-householder_step : goal.returns-in_err-householder_step
returns-in_err-householder_step c =
    broke_off _ _ _ _ c.loop-j-test.true c.loop-j.invariant.4 c.householder_step.ensures c.in_err-householder_step.was
    c.from_residual.ensures.1

pub loop-j-preserved : goal.loop-j-preserved
loop-j-preserved c =
    let l = c.loop-j in
    let n = 2 * (c.args.m - l.j) in (
      search rules,
      search rules,
      search rules,
      length_front l.v c.householder_step.new.v n c.householder_step.auto.v
          ∙ l.invariant.3,
      went_on _ _ l.invariant.4 c.householder_step.ensures c.in_ok-householder_step.was,
    )
