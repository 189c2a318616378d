-- The calls of a run as C and Rust make them: each is the call of run beneath it, over the state that the C state holds
-- (PROTOCOL, Calls). A refusal by 1 to 4 returns the C state that it was given, not the C
-- state of the state read from it, which has no length where no step was taken. A C state with a number that is none of
-- an enum's cases is refused by number 4; it has no point.
use Rattle.std.specs.Prelude.{ℕ, ◌*◌, Bool, ◌&&◌, List, [], eqb, leb, Float}
use Rattle.interval.specs.declared.Scalar.{Scalar}
use Rattle.interval.specs.Result.{Res, ok, refused}
use Rattle.interval.specs.Scalar.{pick}
use Rattle.run.specs.Area.{area_length, point_at}
use Rattle.run.specs.Calls.{AfterCall, refused_by_check, begin_of, reply_of, reply_none_of, point_of}
use Rattle.run.specs.Checks.{valid}
use Rattle.run.specs.declared.state.Event.{Event}
use Rattle.run.specs.declared.state.Returned.{Returned}
use Rattle.run.specs.declared.state.Sizes.{Sizes}
use Rattle.run.specs.declared.state.State.{State}
use Rattle.yadzvego.specs.CState.{c_state_of, numbers_fit, state_at, state_of}
use Rattle.yadzvego.specs.Events.{asked, numbers_of}
use Rattle.yadzvego.specs.declared.events.EventNumbers.{EventNumbers}
use Rattle.yadzvego.specs.declared.events.CReturned.{CReturned}
use Rattle.yadzvego.specs.declared.c_state.Run.{Run}

-- what a call returns, with the area after it
pub record AfterExport : Type 0 where
  pub returned : CReturned
  pub area : List Float

abbrev pub after_export : CReturned → List Float → AfterExport
after_export r a = record { returned = r; area = a }

abbrev pub returned_with : State → Event → CReturned
returned_with st a = record { run = c_state_of st; event = numbers_of a }

abbrev pub returned_from : Returned → CReturned
returned_from o = returned_with o.state o.event

-- what a call of run leaves
abbrev pub after_export_of : AfterCall → AfterExport
after_export_of l = after_export (returned_with l.state l.event) l.area

-- what a call over the C state r leaves
abbrev pub run_after : Run → State → Event → Run
run_after r st a = pick (refused_by_check a) r (c_state_of st)

abbrev pub returned_after : Run → State → Event → CReturned
returned_after r st a = record { run = run_after r st a; event = numbers_of a }

abbrev pub after_export_over : Run → AfterCall → AfterExport
after_export_over r l = after_export (returned_after r l.state l.event) l.area

-- a refusal by 1 to 4, as numbers
abbrev pub by_check : EventNumbers → Bool
by_check a = eqb a.which 2 && leb a.number 4

-- refused, with all as it was
abbrev pub refused_with : Run → ℕ → CReturned
refused_with r k = record { run = r; event = asked 2 0 k 0 }

-- a call over the state, if the C state holds one
abbrev pub called_with : Run → List Float → (State → AfterCall) → Res State → AfterExport
called_with r a call (ok st) = after_export_over r (call st)
called_with r a call (refused k) = after_export (refused_with r k) a

unfoldable pub begin_export : Sizes → List Float → Scalar → List Float → AfterExport
begin_export z start max a = after_export_of (begin_of z start max a)

unfoldable pub reply_export : Run → List Float → ℕ → List Float → AfterExport
reply_export r a m rows = called_with r a (λ st. reply_of st a m rows) (state_of r)

unfoldable pub reply_none_export : Run → List Float → AfterExport
reply_none_export r a = called_with r a (λ st. reply_none_of st a) (state_of r)

-- ---- the point, as a place in an area of that length, and a count of numbers

unfoldable pub has_point : Run → ℕ → Bool
has_point r area = numbers_fit r && (valid (state_at r) && eqb area (area_length (state_at r).sizes))

unfoldable pub point_place : Run → ℕ → ℕ
point_place r area = pick (has_point r area) (point_at (state_at r).sizes (state_at r).phase) 0

unfoldable pub point_length : Run → ℕ → ℕ
point_length r area = pick (has_point r area) (2 * r.n) 0

-- the part of the area that `point` gives
abbrev pub point_in : List Float → Res State → List Float
point_in a (ok st) = point_of st a
point_in a (refused k) = []

abbrev pub point_part : Run → List Float → List Float
point_part r a = point_in a (state_of r)
