-- `scaled_inside` meets its contract: from where the points end the places so far are filled, those ahead are as they
-- were, and each place is inside.
use native.Mathlib.Omega.{arith}
use borrow.Author.Rules.{rules}
use Rattle.linear.proofs.FillLaws.{scaled_more}
use Rattle.linear.proofs.scaled.scaled_inside.Goals as goal

pub loop-p-preserved : goal.loop-p-preserved
loop-p-preserved c =
    let l = c.loop-p in
    let x = c.at_inside.ensures in
    let y = c.at_inside-in-loop-p.ensures in
    let h = c.minus_chosen-x.ensures in
    let g = c.put_inside.ensures in
    (omega (arith, c.loop-p-test.true), search rules, λ u e. scaled_more u _ _ _ _ l.p _ (l.invariant.2 u e) x y h g)
