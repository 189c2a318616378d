-- `violation` meets its contract: the scalars that are filled are the values.
use mathlib.Core.Path.{◌∙◌}
use Prim.Native.Nat.{◌*◌, ◌≤◌}
use native.Mathlib.Omega.{arith}
use Rattle.run.specs.Rows.{constraints_of, value_at}
use Rattle.run.specs.Residuals.{violation_of}
use Rattle.run.proofs.VectorLaws.{norm_fill}
use Rattle.run.proofs.residuals.violation.Goals as goal

pub returns : goal.returns
unfolding violation_of
returns c =
    let a = c.args in
    let e = rw c.constraints.ensures
    at c.values.ensures in
    let h : 2 * a.c.m ≤ 24 = omega (arith, c.requires) in
    rw e at c.norm_of.ensures ∙ norm_fill _ (value_at (constraints_of a.c a.xs.now)) a.c.m h
