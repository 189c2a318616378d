-- `slope_apart` meets its contract.
use lib.Ieee.{of_bits}
use Rattle.sheet.proofs.RowLaws.{slope_apart_is}
use Rattle.sheet.proofs.rows.slope_apart.Goals as goal

pub returns : goal.returns
unfolding of_bits
returns c =
    let a = c.args in
    slope_apart_is a.x.now a.i a.j a.v a.other c.difference.ensures
    c.mul.ensures.value c.slope_by.ensures
