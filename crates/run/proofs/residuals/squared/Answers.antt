-- `squared` meets its contract: the scalars that are filled are the rows linearized.
use mathlib.Core.Path.{◌∙◌}
use Prim.Native.Nat.{◌*◌, ◌≤◌}
use native.Mathlib.Omega.{arith}
use lib.Ieee.{of_bits}
use Rattle.linear.proofs.Sums.{along_start}
use Rattle.run.specs.Rows.{rows_in}
use Rattle.run.specs.Residuals.{linearized_at, squared_of}
use Rattle.run.proofs.VectorLaws.{squares_fill}
use Rattle.run.proofs.residuals.squared.Goals as goal

pub returns : goal.returns
unfolding squared_of of_bits
returns c =
    let a = c.args in
    let h : 2 * a.e.count ≤ 48 = omega (arith, c.requires.few_rows) in
    c.row_dot.ensures
    ∙ rw (along_start, c.linearized.ensures)
    (squares_fill _ (linearized_at (rows_in a.xs.now a.e) a.delta.now a.d) a.e.count h)
