-- `copy` meets its contract: the library's copy within a slice.
use mathlib.Core.Path.{◌∙◌}
use Prim.Native.Nat.{◌+◌, ◌-◌}
use native.Mathlib.Omega.{arith}
use Rattle.run.proofs.AreaLaws.{copied}
use Rattle.run.proofs.area.copy.Goals as goal

pub returns : goal.returns
returns c =
    let a = c.args in
    c.copy_within.ensures.after
    ∙ copied a.area.now a.from a.to a.count (a.from + a.count - a.from) (omega arith) c.requires.0
