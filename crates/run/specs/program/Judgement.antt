-- For private functions: what a judgement is given, and what it answers.
use Rattle.linear.specs.declared.results.LinearError.{LinearError}
use Rattle.std.specs.Prelude.{ℕ, ◌<◌, ◌≤◌, ◌*◌, Err, Ok, Result}
use Rattle.interval.specs.Result.{Res, ok, refused}
use Rattle.linear.specs.LinearResult.{number_of}
use Rattle.run.specs.Judgement.{Judged}
use Rattle.run.specs.declared.judgement.Baseline.{Baseline}
use Rattle.run.specs.declared.rows.RowCounts.{RowCounts}
use Rattle.run.specs.program.Rows.{FewRows}

-- the counts of both answers within the limits, and a step of so many numbers
pub record Judging (c d : RowCounts) (b : Baseline) (step : ℕ) : Type 0 where
  pub counts : FewRows c
  pub next-counts : FewRows d
  pub few_pairs : b.pairs < 65536
  pub step_is : 2 * c.n ≤ step

-- what a judgement means
abbrev pub judgement_of : Result Judged LinearError → Res Judged
judgement_of (Ok j) = ok j
judgement_of (Err k) = refused (number_of k)
