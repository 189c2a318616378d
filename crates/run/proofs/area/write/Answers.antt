-- `write` meets its contract: the part that is lent comes back as src.
use Prim.Native.Nat.{◌+◌, ◌-◌}
use native.Mathlib.Omega.{arith}
use lib.ListN.{length}
use Rattle.run.proofs.AreaLaws.{part_back}
use Rattle.run.proofs.area.write.Goals as goal

pub returns : goal.returns
returns c =
    let a = c.args in
    rw c.copy_from_slice.ensures.after
    (part_back a.area.now a.src.now a.base (a.base + length a.src.now - a.base) (omega arith))
