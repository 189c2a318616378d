-- `root_bits` meets its contract: the steps' promises together are what the law of the root's pattern asks.
use Rattle.interval.proofs.RootBits.{all}
use Rattle.interval.proofs.root.root_bits.Goals as goal

pub returns : goal.returns
returns c =
    let w =
    all c.args.b c.decompose.result.c
    c.decompose.result.e c.normalize.result.c
    c.normalize.result.e c.even_exponent-s.result.c
    c.even_exponent-s.result.e c.root_digits-q.result
    c.decompose.ensures.0 c.normalize.ensures
    c.even_exponent-s.ensures c.root_digits-q.ensures in
    (w.1, w.2)
