-- `along_factored` meets its contract: the array's front has the length asked and is filled whole, so the values by the
-- factor are the definition's.
use lib.Seq.{length-take-le}
use Rattle.linear.specs.Cholesky.{factor_of}
use Rattle.run.proofs.FactorLaws.{along_by}
use Rattle.run.proofs.Prefixes.{front_kept}
use Rattle.run.proofs.RowLaws.{short}
use Rattle.run.proofs.curvature.along_factored.Goals as goal

pub returns : goal.returns
returns c = λ xs f.
    let a = c.args in
    let p = c.requires in
    let high = short p.few.few_constraints in
    let fr = front_kept _ c.products.new.out _ high c.products.auto.out in
    along_by a.c xs p.few a.v.now a.slopes.now _ a.out.now
    (factor_of a.l.now a.«left_out».now) p.enough f _ c.minus_factored.result _
    p.values (length-take-le _ _ high) fr c.products.ensures c.minus_factored.ensures
