-- `two_parts_off` meets its contract: what is taken off row p leaves row p + 1 as it was.
use Rattle.run.proofs.TwoRows.{two_off}
use Rattle.run.proofs.null_space.two_parts_off.Goals as goal

pub returns : goal.returns
returns c =
    let a = c.args in
    let d = c.two_rows-d.ensures in
    two_off a.k a.w.now a.t a.left.now a.p c.requires.0 d.0 d.1
    c.choose.ensures
    c.minus_scaled.ensures
    c.choose-2.ensures c.minus_scaled-2.ensures
