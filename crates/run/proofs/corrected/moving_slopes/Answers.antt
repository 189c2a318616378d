-- `moving_slopes` meets its contract: the slice starts with the slopes stored so far, and is else as it was.
use mathlib.Core.Path.{sym, ◌∙◌}
use Prim.Native.Nat.{◌/◌, ◌%◌}
use native.Mathlib.Omega.{arith}
use borrow.Author.Rules.{rules}
use Rattle.linear.proofs.Lists.{list_to-none, list_to-more}
use Rattle.run.specs.Rows.{rows_in}
use Rattle.run.specs.Corrected.{moving_slope}
use Rattle.run.proofs.CorrectedLaws.{slope_is}
use Rattle.run.proofs.corrected.moving_slopes.Goals as goal

pub loop-p-init : goal.loop-p-init
loop-p-init c = (search rules, search rules, sym (list_to-none _ _))

pub loop-p-preserved : goal.loop-p-preserved
loop-p-preserved c =
    let a = c.args in
    let l = c.loop-p in
    let held = rows_in a.xs.now
    c.constraints-e.result in
    let v = slope_is a.moving.now held _ _ c.slope_of-v.ensures
    c.choose_if.ensures in
    let e = rw (l.invariant.2, v) at c.put.ensures in
    let more =
    list_to-more (λ k. moving_slope a.moving.now held (k / a.c.n) (k % a.c.n)) l.p a.jc.now
    (omega arith) in
    (search rules, search rules, e ∙ more)
