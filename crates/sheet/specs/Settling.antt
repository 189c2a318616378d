-- How a sheet is settled (request (i)): a run from its coordinates, whose questions are answered with the sheet's rows
-- at the asked point, or with none where these are outside the domain, until no question is open. What is printed
-- depends on the text alone.
use Rattle.std.specs.Prelude.{ℕ, zero, suc, Bool, false, ◌&&◌, List, eqb, Float, ℤ, pos, length, get_or, Result, Ok, Err, ⊤}
use Rattle.interval.specs.Result.{Res, ok, refused}
use Rattle.interval.specs.Scalar.{from_i64, pick}
use Rattle.linear.specs.Flat.{list_to, zeros}
use Rattle.run.specs.Calls.{AfterCall, begin_of, reply_of, reply_none_of, point_of}
use Rattle.run.specs.Limits.{AREA}
use Rattle.run.specs.Questions.{is_question}
use Rattle.run.specs.Refusal.{number_of}
use Rattle.run.specs.declared.state.Event.{Event}
use Rattle.run.specs.declared.state.Event.TheVariants.{Question, Finish, Refused}
use Rattle.run.specs.declared.state.Sizes.{Sizes}
use Rattle.sheet.specs.Fault.{fault_number}
use Rattle.sheet.specs.Printing.{error_of, finish_of, SLOT, padded}
use Rattle.sheet.specs.Rows.{rows_of}
use Rattle.sheet.specs.Sheet.{Sheet, read_of}
use Rattle.sheet.specs.Text.{wrong_length}
use Rattle.sheet.specs.declared.fault.Fault.{Fault}

-- two variables and two sum rows for each point
abbrev pub sizes_of : Sheet → Sizes
sizes_of s = record { n = length s.coordinates; s = length s.coordinates; limit = s.limit }

-- the coordinates as a point
abbrev pub point_at : List ℤ → List Float
point_at coordinates = list_to (λ i. from_i64 (get_or coordinates i (pos 0))) (length coordinates)

-- rows with an end outside the domain
abbrev pub is_outside : Event → Bool
is_outside (Question k t s) = false
is_outside (Finish e i t s) = false
is_outside (Refused r) = eqb (number_of r) 3

-- the reply to the open question of a run that aims at a point, with a constraint for each rule
unfoldable pub answer_of : Sheet → List Float → AfterCall → AfterCall
answer_of s aims b =
    let rows = rows_of (length s.coordinates) s.rules (point_of b.state b.area) aims in
    let r = reply_of b.state b.area (length s.rules) rows in
    pick (is_outside r.event) (reply_none_of b.state b.area) r

-- replies while a question is open, at most so many
unfoldable pub answers_to : ℕ → Sheet → List Float → AfterCall → AfterCall
answers_to zero s aims b = b
answers_to (suc k) s aims b = pick (is_question b.event) (answers_to k s aims (answer_of s aims b)) b

-- no run has more questions, the first one included
abbrev pub most_replies : ℕ
most_replies = 1100001

-- from a start, with a reach, aiming at a point
unfoldable pub settled_of : Sheet → List Float → List Float → AfterCall
settled_of s start aims =
    answers_to most_replies s aims (begin_of (sizes_of s) start (from_i64 (pos s.reach)) (zeros AREA))

-- ---- what is printed

-- of an event with the point that it left; no run leaves a question open
abbrev pub printed_event : Event → List Float → List ℕ
printed_event (Question k t s) p = error_of 0
printed_event (Finish e i t s) p = finish_of e i t p
printed_event (Refused r) p = error_of (number_of r)

abbrev pub printed_of : AfterCall → List ℕ
printed_of b = printed_event b.event (point_of b.state b.area)

abbrev pub printed_sheet : Res Sheet → List ℕ
printed_sheet (ok s) = let start = point_at s.coordinates in printed_of (settled_of s start start)
printed_sheet (refused k) = error_of k

-- of a text: a refusal of a text has the number of its error
abbrev pub print_of : List ℕ → List ℕ
print_of text = printed_sheet (read_of text)

-- ---- the call

pub record AfterText : Type 0 where
  pub number : ℕ
  pub area : List Float
  pub slot : List ℕ

abbrev pub after_text : ℕ → List Float → List ℕ → AfterText
after_text number area slot = record { number = number; area = area; slot = slot }

-- what a call returns: 0, or the number of the refusal
abbrev pub number_in : Result ⊤ Fault → ℕ
number_in (Ok u) = 0
number_in (Err e) = fault_number e

-- An area or a slot of another length is refused by 2, with nothing written. Else the slot has what is printed of the
-- text, then zeros, and the area is +0.
unfoldable pub settle_text_of : List ℕ → List Float → List ℕ → AfterText
settle_text_of text area slot =
    pick (eqb (length area) AREA && eqb (length slot) SLOT) (after_text 0 (zeros AREA) (padded (print_of text)))
    (after_text wrong_length area slot)
