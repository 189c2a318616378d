-- For private functions: what the parts along the constraints and an update of the curvature are given, and the update
-- from y. The constraints' slopes, chosen, and the factor of their products serve several vectors.
use Rattle.std.specs.Prelude.{ℕ, ◌+◌, ◌*◌, ◌≤◌, List, ◌≡◌, Float, length}
use Rattle.interval.specs.Result.{Res, ok}
use Rattle.linear.specs.Cholesky.{Factor}
use Rattle.linear.specs.Choose.{choose_of}
use Rattle.linear.specs.Flat.{at, list_to}
use Rattle.linear.specs.Results.{bind}
use Rattle.linear.specs.Solved.{gram_factor_of}
use Rattle.run.specs.Area.{point_len}
use Rattle.run.specs.Curvature.{along_of, updated_by}
use Rattle.run.specs.Rows.{Rows}
use Rattle.run.specs.program.Rows.{FewRows}
use Rattle.run.specs.declared.rows.RowCounts.{RowCounts}

-- ---- counts and lengths

-- counts within the limits, a vector that has a number for each variable, and a slice for as many
pub record AlongLengths (c : RowCounts) (v out : ℕ) : Type 0 where
  pub few : FewRows c
  pub enough : 2 * c.n ≤ v
  pub values : out ≡ 2 * c.n

-- the same counts, with y and a step
pub record UpdateLengths (c : RowCounts) (y step : ℕ) : Type 0 where
  pub few : FewRows c
  pub y_is : y ≡ point_len
  pub step_is : 2 * c.n ≤ step

-- ---- the factor, and the update by it

pub record Factored (c : Rows) (jc : List Float) (f : Factor) : Type 0 where
  pub slopes : jc ≡ list_to (λ p. choose_of (at c.list (c.slopes + p))) (c.count * c.n)
  pub factor : gram_factor_of c.count c.n jc ≡ ok f
  pub entries : length f.l ≡ 2 * (c.count * c.count)
  pub marks : length f.left_out ≡ c.count

-- the update from y and a step, which is brought along the constraints
abbrev pub updated_along : ℕ → Rows → List Float → List Float → List Float → Res (List Float)
updated_along n c b y step = bind (along_of c step) (λ s. updated_by n c b y s)
