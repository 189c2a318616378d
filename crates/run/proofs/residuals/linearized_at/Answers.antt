-- `linearized_at` meets its contract: from the set's slopes on, those of row i begin at i n.
use mathlib.Core.List.{List}
use mathlib.Core.Path.{◌≡◌, refl}
use Prim.Native.Nat.{ℕ, ◌*◌}
use lib.Ieee.{Float}
use lib.ListN.{drop}
use Rattle.interval.specs.declared.Scalar.{Scalar}
use Rattle.interval.specs.Scalar.{add_of}
use Rattle.linear.specs.Dot.{dot_to}
use Rattle.linear.specs.Flat.{along}
use Rattle.linear.proofs.Sums.{along_start}
use Rattle.run.specs.Rows.{Rows, value_at}
use Rattle.run.specs.Residuals.{linearized_at}
use Rattle.run.proofs.Sublists.{along_behind}
use Rattle.run.proofs.residuals.linearized_at.Goals as goal

-- the sum of the value and of what the slopes give
added : (e : Rows) (delta : List Float) (d i : ℕ) {slopes : List Float} {x y r : Scalar} →
    slopes ≡ drop (2 * e.slopes) e.list →
    y ≡ dot_to (along slopes (i * e.n) 1) (along delta 0 1) d →
    x ≡ value_at e i → r ≡ add_of x y → r ≡ linearized_at e delta d i
unfolding linearized_at
added e delta d i es ey ex er =
    rw (er, ex, ey, es, along_behind e.list e.slopes (i * e.n) 1 refl, along_start delta)

pub returns : goal.returns
returns c =
    added _ _ _ _ c.slopes_of-slopes.ensures c.row_dot-total.ensures
    c.value_of.ensures c.add.ensures.value
