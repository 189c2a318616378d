-- `predicted` meets its contract: the scalars that are filled are the rows linearized.
use mathlib.Core.Path.{◌∙◌}
use Prim.Native.Nat.{◌*◌, ◌≤◌}
use native.Mathlib.Omega.{arith}
use Rattle.run.specs.Rows.{constraints_of}
use Rattle.run.specs.Residuals.{linearized_at, predicted_of}
use Rattle.run.proofs.VectorLaws.{norm_fill}
use Rattle.run.proofs.residuals.predicted.Goals as goal

pub returns : goal.returns
unfolding predicted_of
returns c =
    let a = c.args in
    let e = rw c.constraints.ensures
    at c.linearized.ensures in
    let h : 2 * a.c.m ≤ 24 = omega (arith, c.requires.few_constraints) in
    rw e at c.norm_of.ensures
    ∙ norm_fill _ (linearized_at (constraints_of a.c a.xs.now) a.delta.now a.c.n) a.c.m h
