-- Rows as they are answered (PROTOCOL, Rows; the Rust's `Rows`): 2 (m + s) (n + 1) numbers, the constraint values,
-- their slopes row by row, then the sum's. All is read at its place in the answered list.
use Rattle.std.specs.Prelude.{ℕ, ◌+◌, ◌*◌, List, ltb, Float}
use Rattle.interval.specs.Scalar.{pick}
use Rattle.interval.specs.declared.Scalar.{Scalar}
use Rattle.linear.specs.Flat.{at, along}
use Rattle.run.specs.declared.rows.RowCounts.{RowCounts}
use Rattle.run.specs.declared.rows.RowSet.{RowSet}
use Rattle.run.specs.declared.state.Sizes.{Sizes}

-- how many numbers an answer has
abbrev pub row_numbers : RowCounts → ℕ
row_numbers c = 2 * ((c.m + c.s) * (c.n + 1))

-- the counts of an answer with m constraint rows in a run of these sizes
abbrev pub row_counts : Sizes → ℕ → RowCounts
row_counts z m = record { n = z.n; m = m; s = z.s }

-- rows of one kind: `count` values from the place `values` on, and from the place `slopes` on n slopes for each
pub record Rows : Type 0 where
  pub list : List Float
  pub n : ℕ
  pub count : ℕ
  pub values : ℕ
  pub slopes : ℕ

-- the rows that a place describes, in a list
abbrev pub rows_in : List Float → RowSet → Rows
rows_in xs e = record { list = xs; n = e.n; count = e.count; values = e.values; slopes = e.slopes }

-- by the counts of an answer: the constraints' rows, which come first, and the sum's behind them
abbrev pub constraint_set : RowCounts → RowSet
constraint_set c = record { n = c.n; count = c.m; values = 0; slopes = c.m }

abbrev pub sum_set : RowCounts → RowSet
sum_set c = record {
  n = c.n;
  count = c.s;
  values = c.m * (c.n + 1);
  slopes = c.m * (c.n + 1) + c.s;
}

abbrev pub constraints_of : RowCounts → List Float → Rows
constraints_of c xs = rows_in xs (constraint_set c)

abbrev pub sum_of : RowCounts → List Float → Rows
sum_of c xs = rows_in xs (sum_set c)

-- the first k rows, or all where there are fewer
abbrev pub first_rows : ℕ → Rows → Rows
first_rows k e = record {
  list = e.list;
  n = e.n;
  count = pick (ltb k e.count) k e.count;
  values = e.values;
  slopes = e.slopes;
}

-- what an answer says at a point (the Rust's `Evaluation`)
pub record Evaluation : Type 0 where
  pub constraints : Rows
  pub sum : Rows

abbrev pub evaluation_of : RowCounts → List Float → Evaluation
evaluation_of c xs = record { constraints = constraints_of c xs; sum = sum_of c xs }

abbrev pub value_at : Rows → ℕ → Scalar
value_at e i = at e.list (e.values + i)

abbrev pub slope_at : Rows → ℕ → ℕ → Scalar
slope_at e i j = at e.list (e.slopes + i * e.n + j)

-- the slopes of row i, and those by variable j
abbrev pub slopes_of : Rows → ℕ → ℕ → Scalar
slopes_of e i = along e.list (e.slopes + i * e.n) 1

abbrev pub slopes_by : Rows → ℕ → ℕ → Scalar
slopes_by e j = along e.list (e.slopes + j) e.n
