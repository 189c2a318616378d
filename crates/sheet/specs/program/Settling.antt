-- What serves the functions that settle: a sheet within its ranges, with rows of the length that it asks for.
use Rattle.std.specs.Prelude.{ℕ, ◌+◌, ◌*◌, ◌≤◌, List, ◌≡◌, Float, length}
use Rattle.run.specs.Calls.{AfterCall}
use Rattle.run.specs.declared.refusal.Refusal.TheVariants.{Altered}
use Rattle.run.specs.declared.state.Event.TheVariants.{Refused}
use Rattle.run.specs.declared.state.State.{State}
use Rattle.sheet.specs.Settling.{answer_of}
use Rattle.sheet.specs.Sheet as definition
use Rattle.sheet.specs.declared.sheet.Sheet.{Sheet}
use Rattle.sheet.specs.program.Rows.{FewNear}
use Rattle.sheet.specs.program.Sheet.{coordinates_in, list_in}

-- what the reader accepts
pub record Settles (s : Sheet) : Type 0 where
  pub few_points : s.points.count ≤ definition.most_points
  pub some_points : 1 ≤ s.points.count
  pub few_iterations : s.limit ≤ definition.most_iterations
  pub near : FewNear s.rules
  pub small_reach : s.reach ≤ definition.most_length
  pub some_reach : 1 ≤ s.reach
  pub all_coordinates : length (coordinates_in s.points) ≡ 2 * s.points.count
  pub all_rules : length (list_in s.rules) ≡ s.rules.count

-- with the length of its rows
pub record InRange (s : Sheet) (rows : ℕ) : Type 0 where
  pub settles : Settles s
  pub whole_rows : rows ≡ 2 * ((s.rules.count + 2 * s.points.count) * (2 * s.points.count + 1))

-- the reply to a state; its last event has no part in it
abbrev pub reply_to : definition.Sheet → List Float → State → List Float → AfterCall
reply_to s aims st a = answer_of s aims (record { state = st; event = Refused Altered; area = a })
