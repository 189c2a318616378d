-- For private functions: row sets whose places are all within reach.
use Rattle.std.specs.Prelude.{◌<◌, ◌≤◌}
use Rattle.run.specs.Limits.{VARIABLES, CONSTRAINTS, sum_rows}
use Rattle.run.specs.declared.rows.RowCounts.{RowCounts}
use Rattle.run.specs.declared.rows.RowSet.{RowSet}

-- small enough that no place is out of reach
pub record Small (e : RowSet) : Type 0 where
  pub few_variables : e.n ≤ 12
  pub few_rows : e.count ≤ 24
  pub values_near : e.values < 1000
  pub slopes_near : e.slopes < 1000

-- the counts of an answer, within the limits
pub record FewRows (c : RowCounts) : Type 0 where
  pub few_variables : c.n ≤ VARIABLES
  pub few_constraints : c.m ≤ CONSTRAINTS
  pub few_sums : c.s ≤ sum_rows
