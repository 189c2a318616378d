-- That the runs of sheets begin and end (request (i)): of every sheet within its ranges, over every area that has the
-- length of one.
use Rattle.std.specs.Prelude.{false, List, ◌≡◌, Float, pos, length}
use Rattle.interval.specs.Scalar.{from_i64}
use Rattle.run.specs.Calls.{AfterCall, Accepted, begin_of, refused_by_check}
use Rattle.run.specs.Limits.{AREA}
use Rattle.run.specs.Questions.{is_question}
use Rattle.sheet.specs.Ranges.{InRange}
use Rattle.sheet.specs.Settling.{point_at, sizes_of, answers_to, most_replies}
use Rattle.sheet.specs.Sheet.{Sheet}

-- the begin of a sheet, from its coordinates and with its reach
abbrev pub begin_at : Sheet → List Float → AfterCall
begin_at s a = begin_of (sizes_of s) (point_at s.coordinates) (from_i64 (pos s.reach)) a

-- the run of a sheet that aims at a point
abbrev pub settled_at : Sheet → List Float → List Float → AfterCall
settled_at s aims a = answers_to most_replies s aims (begin_at s a)

pub record RunsEnd : Type 0 where
  -- the begin is accepted
  pub begun : (s : Sheet) → InRange s → (a : List Float) → length a ≡ AREA → Accepted (begin_at s a)
  -- the bound on the replies decides nothing: no question is open after them
  pub ended :
      (s : Sheet) → InRange s → (aims a : List Float) → length a ≡ AREA → is_question (settled_at s aims a).event ≡ false
  -- and what ended the run is no refusal by 1 to 4
  pub not_refused :
      (s : Sheet) → InRange s → (aims a : List Float) → length a ≡ AREA →
      refused_by_check (settled_at s aims a).event ≡ false
