-- `curvature_along` meets its contract: the scalars that are filled are the products with the curvature's rows.
use mathlib.Core.Path.{refl, ◌∙◌}
use lib.Ieee.{of_bits}
use Rattle.run.proofs.CurvatureLaws.{bent_products}
use Rattle.run.proofs.proposal.curvature_along.Goals as goal

pub returns : goal.returns
unfolding of_bits
returns c =
    let a = c.args in
    (rw (c.in_row.ensures, c.in_row-2.ensures) at c.plus_dot.ensures)
    ∙ bent_products a.n a.b.now a.delta.now c.requires refl c.products.ensures
