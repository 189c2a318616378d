-- `rows_at` meets its contract: the four fills stand one behind the other, and leave no other number.
use Rattle.sheet.proofs.RowLaws.{rows_is}
use Rattle.sheet.proofs.rows.rows_at.Goals as goal

pub returns : goal.returns
returns c =
    let a = c.args in
    rows_is a.n a.rules a.x.now a.aims.now a.rows.now
    c.well_formed.1.0.1.1.1.0.1.0.1 c.requires.0.few c.requires.2
    c.values.ensures
    c.slopes.ensures
    c.sum_values.ensures
    c.sum_slopes.ensures
