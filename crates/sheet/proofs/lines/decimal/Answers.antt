-- `decimal` meets its contract: the digits from the place `first` on are stored, and the rest has those before.
use Prim.Native.Nat.{◌-◌}
use mathlib.Core.Path.{◌∙◌}
use native.Mathlib.Omega.{arith}
use lib.ListN.{length-set}
use Rattle.sheet.proofs.DecimalLaws.{stored_more, stored_all}
use Rattle.sheet.proofs.lines.decimal.Goals as goal

pub loop-rest-preserved : goal.loop-rest-preserved
loop-rest-preserved c = stored_more c.loop-rest.invariant (omega arith) (omega arith) (omega arith)

pub returns : goal.returns
returns c =
    let v = c.loop-rest.invariant in
    let h = v.few in
    let l = v.left in (
      stored_all (c.loop-rest.first - 1) v (omega arith) (omega arith) (omega arith),
      omega arith,
      length-set c.loop-rest.digits _ _ ∙ v.long,
    )
