-- `gram_factor_sized` meets its contract: the factor of the products reads their lower triangle alone.
use Rattle.linear.specs.Cholesky.{factor_of}
use Rattle.linear.proofs.SolvedLaws.{gram_factor}
use Rattle.linear.proofs.solved.gram_factor_sized.Goals as goal

pub returns : goal.returns
returns c =
    let f = c.factor_sized in
    let e = c.gram.ensures in
    let a = c.args in
    gram_factor a.m a.n a.jc.now _ f.result (factor_of f.new.l f.new.left_out) e
    f.ensures
