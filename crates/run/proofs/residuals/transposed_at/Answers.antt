-- `transposed_at` meets its contract: from the set's slopes on, those by variable j begin at j.
use mathlib.Core.List.{List}
use mathlib.Core.Path.{◌≡◌, refl}
use Prim.Native.Nat.{ℕ, ◌*◌}
use lib.Ieee.{Float, of_bits}
use lib.ListN.{drop}
use Rattle.interval.specs.declared.Scalar.{Scalar}
use Rattle.linear.specs.Dot.{dot_to}
use Rattle.linear.specs.Flat.{along}
use Rattle.linear.proofs.Sums.{along_start}
use Rattle.run.specs.Rows.{Rows}
use Rattle.run.specs.Residuals.{transposed_at}
use Rattle.run.proofs.Sublists.{along_behind}
use Rattle.run.proofs.residuals.transposed_at.Goals as goal

summed : (e : Rows) (w : List Float) (j : ℕ) {slopes : List Float} {r : Scalar} →
    slopes ≡ drop (2 * e.slopes) e.list →
    r ≡ dot_to (along slopes j e.n) (along w 0 1) e.count → r ≡ transposed_at e w j
unfolding transposed_at
summed e w j es er = rw (er, es, along_behind e.list e.slopes j e.n refl, along_start w)

pub returns : goal.returns
unfolding of_bits
returns c =
    summed _ _ _ c.slopes_of-slopes.ensures
    (rw (c.in_column-p.ensures, c.in_row.ensures) at c.plus_dot.ensures)
