-- Demand 3 (PROTOCOL, What holds of every list of calls): one claim about a run from its begin over every list of
-- calls. It speaks of what the calls
-- answer, of the points they asked and of the rows they were given; lengths and damping are those that demand 2's
-- definition (specs/Calls.antt) has for begin's numbers and the replies.
use Rattle.std.specs.Prelude.{None, Option, Some}
use Rattle.std.specs.Prelude.{ℕ, ◌+◌, ◌*◌, ◌≤◌, ◌<◌, Bool, false, ◌||◌, cond, true, not, ◌&&◌, List, [], ◌∷◌, ◌⊎◌, ◌≢◌, ◌≡◌, T, eqb, Float, ℤ, length}
use Rattle.std.specs.Float.{binary64}
use Rattle.std.specs.Float.Ieee.{fits}
use Rattle.std.specs.Int.Signed.{lt_z}
use Rattle.interval.specs.Result.{ok}
use Rattle.interval.specs.Scalar.{zero_s, pick, definitely_greater, sub_of}
use Rattle.interval.specs.Scaling.{third}
use Rattle.interval.specs.declared.Scalar.{Scalar}
use Rattle.linear.specs.Squares.{squares_to, ChosenEach, rescaled_all}
use Rattle.run.specs.Calls.{AfterCall, reply_of, reply_none_of, point_of, Accepted, begin_of}
use Rattle.run.specs.Checks.{all_in_domain, valid, most_questions}
use Rattle.run.specs.Area.{area_length, places_of, part_of}
use Rattle.run.specs.Damping.{first_mu}
use Rattle.run.specs.Judgement.{sum_change, indefinite, contracts}
use Rattle.run.specs.Limits.{CONSTRAINTS, turn_downs}
use Rattle.run.specs.Residuals.{violation_of}
use Rattle.run.specs.Refusal.{number_of}
use Rattle.run.specs.Rows.{row_numbers, Rows, value_at, constraints_of, sum_of, row_counts}
use Rattle.run.specs.declared.state.Event.{Event}
use Rattle.run.specs.declared.state.Event.TheVariants.{Question, Finish, Refused}
use Rattle.run.specs.declared.state.Sizes.{Sizes}
use Rattle.run.specs.declared.state.State.{State}
use Rattle.run.specs.declared.state.Stop.{Stop}

-- ---- a list of calls

-- the area that a call is lent: the one that the call before left, or any other
pub data LentArea : Type 0 where
  same : LentArea
  other : List Float → LentArea

-- each number is one of binary64, as those of a slice of f64 are
abbrev pub Floats : List Float → Type 0
Floats [] = Unit
Floats (x ∷ xs) = T (fits binary64 x) × Floats xs

-- a reply with rows, of any m, length and contents, or none
pub data Call : Type 0 where
  rows : LentArea → (m : ℕ) (xs : List Float) → Floats xs → Call
  none : LentArea → Call

-- another area is lent only to a call that is refused for its m, or for a length, that of the area or that of the rows
abbrev pub Allowed : Sizes → Call → Type 0
Allowed z (rows same m xs f) = Unit
Allowed z (rows (other a) m xs f) =
    (CONSTRAINTS < m) ⊎ ((length a ≢ area_length z) ⊎ (length xs ≢ row_numbers (row_counts z m)))
Allowed z (none same) = Unit
Allowed z (none (other a)) = length a ≢ area_length z

-- state and area, as the caller holds them
pub record Run : Type 0 where
  pub state : State
  pub area : List Float

abbrev pub run_of : AfterCall → Run
run_of l = record { state = l.state; area = l.area }

pub record CallResult : Type 0 where
  pub event : Event
  pub run : Run

abbrev pub call_result_by : AfterCall → List Float → CallResult
call_result_by l area = record { event = l.event; run = record { state = l.state; area = area } }

abbrev pub call_result : Run → Call → CallResult
call_result r (rows same m xs f) = let l = reply_of r.state r.area m xs in call_result_by l l.area
call_result r (rows (other a) m xs f) = call_result_by (reply_of r.state a m xs) r.area
call_result r (none same) = let l = reply_none_of r.state r.area in call_result_by l l.area
call_result r (none (other a)) = call_result_by (reply_none_of r.state a) r.area

-- ---- what the answers tell

-- 5 or 6
abbrev pub is_arithmetic : Event → Bool
is_arithmetic (Question k t s) = false
is_arithmetic (Finish e i t s) = false
is_arithmetic (Refused r) = eqb (number_of r) 5 || eqb (number_of r) 6

-- the standing number that an answer names, or else the last one named
abbrev pub standing_by : Event → ℕ → ℕ
standing_by (Question k t s) before = s
standing_by (Finish e i t s) before = s
standing_by (Refused k) before = before

-- the number of the last question asked
abbrev pub asked_by : Event → ℕ → ℕ
asked_by (Question k t s) before = k
asked_by (Finish e i t s) before = before
asked_by (Refused k) before = before

-- the points asked so far, each under its question's number; the newest is the one that `point` hands out
abbrev pub points_by : Event → Run → (ℕ → List Float) → ℕ → List Float
points_by (Question k t s) r before = λ e. cond (eqb e k) (point_of r.state r.area) (before e)
points_by (Finish e i t s) r before = before
points_by (Refused k) r before = before

abbrev pub is_refused : Event → Bool
is_refused (Question k t s) = false
is_refused (Finish e i t s) = false
is_refused (Refused k) = true

-- an answer's numbers, with as many constraint rows as it says itself
pub record Answer : Type 0 where
  pub m : ℕ
  pub numbers : List Float

abbrev pub answer : ℕ → List Float → Answer
answer m xs = record { m = m; numbers = xs }

-- what a question was answered: rows that were accepted, or none
pub data AnsweredRows : Type 0 where
  no_rows : AnsweredRows
  has_rows : Answer → AnsweredRows

-- the rows that a call brought, where it was not refused
abbrev pub accepted : Call → Event → Bool
accepted (rows l m xs f) a = not (is_refused a)
accepted (none l) a = false

abbrev pub answered_by : Call → AnsweredRows
answered_by (rows l m xs f) = has_rows (answer m xs)
answered_by (none l) = no_rows

-- the damping that an iteration begins with, after a step taken with the damping mu
abbrev pub next_mu : Scalar → Scalar
next_mu mu = pick (definitely_greater (third mu) zero_s) (third mu) mu

-- Read off the calls so far: the standing number, the last question's, how often standing changed, every number that
-- stood (the present one first), the rows accepted for each question, the point that it asked for, and the damping that
-- the present iteration began with.
pub record History : Type 0 where
  pub standing : ℕ
  pub asked : ℕ
  pub changes : ℕ
  pub stood : List ℕ
  pub rows : ℕ → AnsweredRows
  pub points : ℕ → List Float
  pub mu : Scalar

-- standing changes where a question or finish names another number than the last did
abbrev pub changed : History → Event → Bool
changed h a = not (eqb (standing_by a h.standing) h.standing)

abbrev pub rows_by : History → Call → Event → ℕ → AnsweredRows
rows_by h c a = λ k. cond (accepted c a && eqb k h.asked) (answered_by c) (h.rows k)

-- after the call c from the run r, which left p
abbrev pub entered : History → Run → Call → CallResult → History
entered h r c p = record {
  standing = standing_by p.event h.standing;
  asked = asked_by p.event h.asked;
  changes = h.changes + cond (changed h p.event) 1 0;
  stood = cond (changed h p.event) (standing_by p.event h.standing ∷ h.stood) h.stood;
  rows = rows_by h c p.event;
  points = points_by p.event p.run h.points;
  mu = cond (changed h p.event) (next_mu r.state.search.mu) h.mu;
}

-- after an accepted begin, which left r: question 0 is asked, and its point stands
abbrev pub begun : Run → History
begun r = record {
  standing = 0;
  asked = 0;
  changes = 0;
  stood = 0 ∷ [];
  rows = λ k. no_rows;
  points = λ k. cond (eqb k 0) (point_of r.state r.area) [];
  mu = first_mu;
}

unfoldable pub In : ℕ → List ℕ → Type 0
In e [] = ⊥
In e (x ∷ xs) = (e ≡ x) ⊎ In e xs

-- ---- a point that stands was answered with rows

-- at most 12 constraint rows, and numbers of the length that they ask for, with every end in the domain
pub record Fitting (z : Sizes) (x : Answer) : Type 0 where
  pub few : x.m ≤ CONSTRAINTS
  pub length_is : length x.numbers ≡ row_numbers (row_counts z x.m)
  pub in-domain : all_in_domain x.numbers ((x.m + z.s) * (z.n + 1)) ≡ true

abbrev pub Answered : Sizes → AnsweredRows → Type 0
Answered z no_rows = ⊥
Answered z (has_rows x) = Fitting z x

-- two questions had rows, and P holds of them
abbrev pub BothWith : (Answer → Answer → Type 0) → AnsweredRows → AnsweredRows → Type 0
BothWith P (has_rows x) (has_rows y) = P x y
BothWith P (has_rows x) no_rows = ⊥
BothWith P no_rows y = ⊥

-- the rows of an answer, read by its own m
abbrev pub constraints_in : Sizes → Answer → Rows
constraints_in z x = constraints_of (row_counts z x.m) x.numbers

abbrev pub sum_in : Sizes → Answer → Rows
sum_in z x = sum_of (row_counts z x.m) x.numbers

-- ---- exact progress

-- the sum of the squares of the values is lower at e' than at e for all choices: each value anywhere in its interval,
-- a whole number over a power of two of its own; both sums are of the choices written over any common power
abbrev pub Falls : Rows → Rows → Type 0
Falls e e' =
    (p q : ℕ → ℤ) (j k : ℕ → ℕ) (c : ℕ) →
    ChosenEach (value_at e) e.count p j c →
    ChosenEach (value_at e') e'.count q k c →
    T (lt_z (squares_to (rescaled_all q k c) e'.count) (squares_to (rescaled_all p j c) e.count))

-- one and the same of a point's two sums is lower; each is whole, whatever the counts of the two
abbrev pub LowerRows : Sizes → Answer → Answer → Type 0
LowerRows z x y = Falls (sum_in z x) (sum_in z y) ⊎ Falls (constraints_in z x) (constraints_in z y)

abbrev pub Lower : Sizes → AnsweredRows → AnsweredRows → Type 0
Lower z = BothWith (LowerRows z)

-- against the point it replaced, which is the first of those that stood, and against every one before
abbrev pub Progress : Sizes → History → History → Type 0
Progress z h h' = (e : ℕ) → In e h.stood → Lower z (h'.rows e) (h'.rows h'.standing)

-- ---- an undecided step that halves

-- neither the sum's change nor the violation's fall is definite: each interval holds 0
pub record UndecidedRows (z : Sizes) (x y : Answer) : Type 0 where
  pub before : Scalar
  pub after : Scalar
  pub before_is : violation_of (constraints_in z x) ≡ ok before
  pub after_is : violation_of (constraints_in z y) ≡ ok after
  pub sum_undecided : T (indefinite (sum_change (sum_in z x) (sum_in z y)))
  pub violation_undecided : T (indefinite (sub_of before after))

abbrev pub Undecided : Sizes → AnsweredRows → AnsweredRows → Type 0
Undecided z = BothWith (UndecidedRows z)

-- twice the length of the last step is definitely less than the length of the one before
abbrev pub halves : Option Scalar → Option Scalar → Bool
halves before (Some length) = contracts before length
halves before None = false

-- r and r' are the run before and after the call that changed standing
pub record Halving (z : Sizes) (h h' : History) (r r' : Run) : Type 0 where
  pub not_damped : r.state.search.mu ≡ h.mu  -- the damping is the one that its iteration began with
  pub undecided : Undecided z (h'.rows h.standing) (h'.rows h'.standing)
  pub shorter : T (halves r.state.last r'.state.last)

-- ---- the claim

-- between two calls: after the begin, and after every call
pub record Between (z : Sizes) (h : History) (r : Run) : Type 0 where
  -- iterations are the changes of standing, at most the limit
  pub counted : r.state.counts.iterations ≡ h.changes
  pub limited : h.changes ≤ z.limit
  -- at most 1,100 (iterations + 1) turn-downs, and question numbers within 5,500 times the limit
  pub few_turn_downs : r.state.search.turned_down ≤ turn_downs * (h.changes + 1)
  pub few_questions : r.state.counts.question ≤ most_questions z
  -- number 4 does not refuse the run as altered
  pub sound : valid r.state ≡ true
  -- the standing slot holds the point that was asked under the standing number
  pub standing_point : part_of r.area (places_of z).standing (2 * z.n) ≡ h.points h.standing

-- of one call in the list: h and r before it, h' after it, p what it left
pub record Claim (z : Sizes) (h h' : History) (r : Run) (p : CallResult) : Type 0 where
  -- the finish reports the counts, and `point` then gives the standing point
  pub reported :
      (e : Stop) (i t s : ℕ) →
      p.event ≡ Finish e i t s → (i ≡ h'.changes) × (t ≡ p.run.state.search.turned_down)
  pub finish_point :
      (e : Stop) (i t s : ℕ) →
      p.event ≡ Finish e i t s → point_of p.run.state p.run.area ≡ h'.points h'.standing
  -- at a change every point that stood, the new one first, was answered with rows
  pub answered : T (changed h p.event) → (e : ℕ) → In e h'.stood → Answered z (h'.rows e)
  -- each change is exact progress or halves
  pub forward : T (changed h p.event) → Progress z h h' ⊎ Halving z h h' r p.run

-- after the begin, and of every call up to the first arithmetic refusal
unfoldable pub Along : Sizes → History → Run → List Call → Type 0
Along z h r [] = Between z h r
Along z h r (c ∷ cs) =
    let p = call_result r c in
    let h' = entered h r c p in
    Between z h r × (Allowed z c → is_arithmetic p.event ≡ false → Claim z h h' r p × Along z h' p.run cs)

-- demand 3: from every accepted begin, over all lists of calls
abbrev pub Demand3 : Type 0
Demand3 =
    (z : Sizes) (start : List Float) (max : Scalar) (a : List Float) →
    let b = begin_of z start max a in
    Accepted b → (cs : List Call) → Along z (begun (run_of b)) (run_of b) cs
