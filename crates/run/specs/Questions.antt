-- How long a run is, for every list of calls (PROTOCOL, Calls): each accepted reply asks the next number or ends the
-- run, and question numbers are within 5,500 times the limit. So a caller that answers until the run is over needs no
-- bound of its own.
use Rattle.std.specs.Prelude.{ℕ, ◌+◌, ◌≤◌, Bool, true, false, cond, List, [], ◌∷◌, ◌≡◌, Float}
use Rattle.interval.specs.declared.Scalar.{Scalar}
use Rattle.run.specs.Calls.{Accepted, begin_of, refused_by_check, Follows}
use Rattle.run.specs.Checks.{most_questions}
use Rattle.run.specs.Demand.{Call, Allowed, Run, run_of, call_result}
use Rattle.run.specs.declared.state.Event.{Event}
use Rattle.run.specs.declared.state.Event.TheVariants.{Question, Finish, Refused}
use Rattle.run.specs.declared.state.Sizes.{Sizes}

-- every call of a list is one that demand 3 speaks of
unfoldable pub AllAllowed : Sizes → List Call → Type 0
AllAllowed z [] = Unit
AllAllowed z (c ∷ cs) = Allowed z c × AllAllowed z cs

-- how many calls of a list are accepted, which is: not refused by 1 to 4
unfoldable pub accepted_in : Run → List Call → ℕ
accepted_in r [] = 0
accepted_in r (c ∷ cs) = cond (refused_by_check (call_result r c).event) 0 1 + accepted_in (call_result r c).run cs

-- how many of them ask a question
abbrev pub is_question : Event → Bool
is_question (Question k t s) = true
is_question (Finish e i t s) = false
is_question (Refused k) = false

unfoldable pub questions_in : Run → List Call → ℕ
questions_in r [] = 0
questions_in r (c ∷ cs) = cond (is_question (call_result r c).event) 1 0 + questions_in (call_result r c).run cs

pub record QuestionBounds : Type 0 where
  -- of one call, on all contents of the run
  pub follows :
      (r : Run) (c : Call) →
      refused_by_check (call_result r c).event ≡ false →
      Follows r.state.counts.question (call_result r c).run.state (call_result r c).event
  -- from every accepted begin, which asks the first question, over all lists of calls
  pub few_questions :
      (z : Sizes) (start : List Float) (max : Scalar) (a : List Float) →
      let b = begin_of z start max a in
      Accepted b → (cs : List Call) → AllAllowed z cs → 1 + questions_in (run_of b) cs ≤ 1 + most_questions z
  pub few_accepted :
      (z : Sizes) (start : List Float) (max : Scalar) (a : List Float) →
      let b = begin_of z start max a in
      Accepted b → (cs : List Call) → AllAllowed z cs → accepted_in (run_of b) cs ≤ 1 + most_questions z
