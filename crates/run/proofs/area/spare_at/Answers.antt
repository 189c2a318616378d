-- `spare_at` meets its contract: all sizes together are where the last numbers begin.
use native.Mathlib.Omega.{arith}
use Rattle.run.proofs.PlaceLaws.{each_same, sizes_together}
use Rattle.run.proofs.area.spare_at.Goals as goal

pub returns : goal.returns
returns c =
    let e = each_same c.slot_sizes-size.ensures in
    omega (arith, sizes_together c.args.z e)
