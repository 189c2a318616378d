-- A list of calls from its begin, as `play` makes them: the calls that the codes name, the fold of demand 3's `played`
-- over them, and what demand 3 (PROTOCOL, What holds of every list of calls; run's specs/Demand.antt) says of what is
-- left after the last.
use Rattle.std.specs.Prelude.{ℕ, zero, suc, ◌-◌, ◌/◌, ◌%◌, ◌≡◌, Bool, false, List, [], ◌∷◌, ◌++◌, ltb, eqb, Float, take, drop, get_or}
use Rattle.interval.specs.declared.Scalar.{Scalar}
use Rattle.interval.specs.Scalar.{pick}
use Rattle.run.specs.Calls.{AfterCall, Accepted, begin_of}
use Rattle.run.specs.Demand.{
  LentArea,
  same,
  other,
  Floats,
  Call,
  rows,
  none,
  Allowed,
  Run,
  run_of,
  CallResult,
  call_result_by,
  call_result,
  is_arithmetic,
  History,
  entered,
  begun,
  Between,
  Claim,
  Along,
}
use Rattle.run.specs.declared.state.Returned.{Returned}
use Rattle.run.specs.declared.state.Sizes.{Sizes}

-- ---- the calls

-- an area of no numbers, which refuses the call
abbrev pub no_area : LentArea
no_area = other []

-- a code is even over the area that the call before left, and odd over an area of no numbers
abbrev pub lent_of : ℕ → LentArea
lent_of code = pick (eqb (code % 2) 0) same no_area

-- 0 and 1 reply none
abbrev pub is_none : ℕ → Bool
is_none code = ltb code 2

-- 2 k + 2 and 2 k + 3 reply with rows: the next k numbers
abbrev pub count_of : ℕ → ℕ
count_of code = code / 2 - 1

abbrev pub call_of : ℕ → ℕ → (xs : List Float) → Floats xs → Call
call_of code m xs f = pick (is_none code) (none (lent_of code)) (rows (lent_of code) m xs f)

-- a part of numbers of binary64 is of binary64
pub floats_take : (k : ℕ) (xs : List Float) → Floats xs → Floats (take k xs)
floats_take zero xs f = tt
floats_take (suc k) [] f = tt
floats_take (suc k) (x ∷ xs) f = (f.0, floats_take k xs f.1)

pub floats_drop : (k : ℕ) (xs : List Float) → Floats xs → Floats (drop k xs)
floats_drop zero xs f = f
floats_drop (suc k) [] f = tt
floats_drop (suc k) (x ∷ xs) f = floats_drop k xs f.1

-- One call for each code, whose rows follow each other in xs; where fewer numbers are left, the rows are those. The
-- counts of constraint rows are in ms, one for each call; where fewer are left, there are none.
unfoldable pub calls_of : List ℕ → List ℕ → (xs : List Float) → Floats xs → List Call
calls_of [] ms xs f = []
calls_of (code ∷ codes) ms xs f =
    let k = count_of code in
    call_of code (get_or ms 0 0) (take k xs) (floats_take k xs f)
    ∷ calls_of codes (drop 1 ms) (drop k xs) (floats_drop k xs f)

-- ---- what they leave

-- what a function returns, with the area after it
abbrev pub call_result_of : Returned → List Float → CallResult
call_result_of r a = record { event = r.event; run = record { state = r.state; area = a } }

-- the call that a code names
abbrev pub Called : Run → ℕ → ℕ → List Float → CallResult → Type 0
Called r code m xs p = (f : Floats xs) → p ≡ call_result r (call_of code m xs f)

-- one call after another
unfoldable pub played_to : CallResult → List Call → CallResult
played_to p [] = p
played_to p (c ∷ cs) = played_to (call_result p.run c) cs

-- begin, and then the calls
abbrev pub played_from : AfterCall → List Call → CallResult
played_from b cs = played_to (call_result_by b b.area) cs

-- what is read off their answers
unfoldable pub history_to : History → Run → List Call → History
history_to h r [] = h
history_to h r (c ∷ cs) =
    let p = call_result r c in
    history_to (entered h r c p) p.run cs

abbrev pub history_from : AfterCall → List Call → History
history_from b cs = history_to (begun (run_of b)) (run_of b) cs

-- none of them is refused by 5 or 6
unfoldable pub Clear : Run → List Call → Type 0
Clear r [] = Unit
Clear r (c ∷ cs) =
    let p = call_result r c in
    (is_arithmetic p.event ≡ false) × Clear p.run cs

-- ---- the contract of `play`: begin left b, and the calls that the codes name left p

-- demand 3 of the last of the calls, before which the run was what the calls before it leave
abbrev pub LastClaim : Sizes → AfterCall → List Call → List Call → CallResult → Type 0
LastClaim z b before calls p =
    Clear (run_of b) calls → Claim z (history_from b before) (history_from b calls) (played_from b before).run p

pub record ListPlayed (z : Sizes) (b : AfterCall) (codes ms : List ℕ) (xs : List Float) (p : CallResult)
    : Type 0 where
  pub floats : Floats xs
  pub is_fold : p ≡ played_from b (calls_of codes ms xs floats)
  -- demand 3 of the begin and all the calls
  pub along : Accepted b → Along z (begun (run_of b)) (run_of b) (calls_of codes ms xs floats)
  -- and of what is left, by any number of calls, also by none
  pub between :
      Accepted b →
      Clear (run_of b) (calls_of codes ms xs floats) → Between z (history_from b (calls_of codes ms xs floats)) p.run
  pub last :
      Accepted b →
      (before : List ℕ) (code : ℕ) →
      codes ≡ before ++ (code ∷ []) → LastClaim z b (calls_of before ms xs floats) (calls_of codes ms xs floats) p

abbrev pub Plays : Sizes → List Float → Scalar → List Float → List ℕ → List ℕ → List Float → CallResult → Type 0
Plays z start max a codes ms xs p = ListPlayed z (begin_of z start max a) codes ms xs p

-- ---- every list of demand 3 can be played

-- another area is lent only to a call that is refused for its m or for a length
abbrev pub AllAllowed : Sizes → List Call → Type 0
AllAllowed z [] = Unit
AllAllowed z (c ∷ cs) = Allowed z c × AllAllowed z cs

-- codes, counts and numbers whose calls leave what the calls cs leave, from a run of these sizes
pub record Named (z : Sizes) (cs : List Call) : Type 0 where
  pub codes : List ℕ
  pub ms : List ℕ
  pub numbers : List Float
  pub floats : Floats numbers
  pub leaves :
      (f : Floats numbers) (p : CallResult) →
      p.run.state.sizes ≡ z → played_to p (calls_of codes ms numbers f) ≡ played_to p cs

abbrev pub EveryList : Type 0
EveryList = (z : Sizes) (cs : List Call) → AllAllowed z cs → Named z cs
