-- What holds between history and run from begin on: the counts are those of the history, the area has the rows and the
-- point of the standing question and the filter its pairs; and what holds of state and memory inside a call.
use Rattle.std.specs.Prelude.{None, Option, Some}
use Rattle.run.specs.declared.state.Kind.{Kind}
use Prim.Native.Nat.{ℕ, ◌+◌, ◌*◌, ◌≤◌, ◌<◌}
use mathlib.Core.Bool.{Bool, true, false, cond}
use mathlib.Core.Logic.{◌⊎◌, ◌≢◌}
use mathlib.Core.Path.{◌≡◌}
use mathlib.Core.List.{List, [], ◌∷◌}
use native.Mathlib.Omega.{arith}
use lib.Dec.{T}
use lib.Ieee.{Float}
use lib.ListN.{length}
use Rattle.interval.specs.declared.Scalar.{Scalar}
use Rattle.interval.specs.Result.{ok}
use Rattle.run.specs.Residuals.{sum_squared, violation_of}
use Rattle.run.specs.Filter.{filter_sum, filter_violation}
use Rattle.run.specs.Area.{used_in, Memory, memory_of}
use Rattle.run.specs.Endings.{AfterSlots}
use Rattle.run.specs.Checks.{sizes_fit, contents_fit, phase_fits}
use Rattle.run.specs.Calls.{in_area}
use Rattle.run.specs.Demand.{
  Call,
  Run,
  CallResult,
  call_result_by,
  History,
  In,
  Answer,
  answer,
  AnsweredRows,
  has_rows,
  Fitting,
  Answered,
  constraints_in,
  sum_in,
  Lower,
  Undecided,
  halves,
  next_mu,
  Claim,
  rows_by,
  entered,
  is_arithmetic,
  is_refused,
}
use Rattle.run.specs.declared.state.Event.{Event}
use Rattle.run.specs.declared.state.Counts.{Counts}
use Rattle.run.specs.declared.state.Kind.TheVariants as kind
use Rattle.run.specs.declared.state.Search.{Search}
use Rattle.run.specs.declared.state.Sizes.{Sizes}
use Rattle.run.specs.declared.state.State.{State}
use Rattle.run.specs.program.Area.{lengths_of}
use Rattle.run.proofs.DampingGrowth.{Growth}
use Rattle.run.proofs.demand3.ExactLaws.{Good}

-- ---- rows and pairs

-- a question was answered with these rows
pub record FittingRows (z : Sizes) (given : AnsweredRows) (rows : Answer) : Type 0 where
  pub given_is : given ≡ has_rows rows
  pub fitting : Fitting z rows
  pub good : Good z rows

-- the i-th pair is f and the violation of the rows that a question was answered with
pub record Pair (z : Sizes) (given : AnsweredRows) (filter : List Float) (i : ℕ) : Type 0 where
  pub rows : Answer
  pub rowed : FittingRows z given rows
  pub pair_sum : filter_sum filter i ≡ sum_squared (sum_in z rows)
  pub pair_violation : violation_of (constraints_in z rows) ≡ ok (filter_violation filter i)

-- a pair for each number that stood before, the last one first
abbrev pub Pairs : Sizes → (ℕ → AnsweredRows) → List Float → List ℕ → Type 0
Pairs z rows filter [] = Unit
Pairs z rows filter (e ∷ es) = Pair z (rows e) filter (length es) × Pairs z rows filter es

-- the answers of the standing point and of the landed one, as the memory has them
abbrev pub standing_answer : State → Memory → Answer
standing_answer st w = answer st.contents.standing_m w.standing_rows

abbrev pub landed_answer : State → Memory → Answer
landed_answer st w = answer st.contents.landed_m w.landed_rows

-- the rows of the point that stands, and the filter
pub record Stands (z : Sizes) (rows : ℕ → AnsweredRows) (standing : ℕ) (before : List ℕ) (own : Answer)
    (filter : List Float) : Type 0 where
  pub rowed : FittingRows z (rows standing) own
  pub pairs : Pairs z rows filter before
  pub long : length filter ≡ 4 * length before

-- ---- damping and questions

abbrev pub once : Bool → ℕ
once b = cond b 1 0

-- At most 1,049 turn-downs an iteration: the growths of the damping mu that it began with, none of them while `first`
-- holds, and the retry. And five questions for each turn-down and iteration, but for the open ones.
pub record CountBounds (mu : Scalar) (k : Counts) (x : Search) (since : ℕ) : Type 0 where
  pub growths : ℕ
  pub growth : Growth mu x.mu growths
  pub fresh : x.first ≡ true → growths ≡ 0
  pub turned : x.turned_down ≤ 1049 * k.iterations + growths + once x.plain
  pub few : k.question ≤ 5 * (x.turned_down + k.iterations) + since

pub once_few : (b : Bool) → once b ≤ 1
once_few true = omega arith
once_few false = omega arith

-- ---- between calls

-- what number 4 asks
pub record Sound (st : State) : Type 0 where
  pub sizes-fit : sizes_fit st.sizes ≡ true
  pub contents-fit : contents_fit st.contents ≡ true
  pub within : st.counts.iterations ≤ st.sizes.limit
  pub few_turned : st.search.turned_down ≤ 1100 * (st.counts.iterations + 1)
  pub few_asked : st.counts.question ≤ 5500 * st.sizes.limit
  pub few_corrections : st.counts.corrections ≤ 4
  pub phase-fits : phase_fits st st.phase ≡ true

-- A trial or correction is open, with so many questions since the last turn-down or iteration; the numbers that stood
-- are below `top`.
pub record Tried (h : History) (r : Run) (since top : ℕ) : Type 0 where
  pub before : List ℕ
  pub asked_is : h.asked ≡ r.state.counts.question
  pub standing_is : h.standing ≡ r.state.counts.standing
  pub stood_is : h.stood ≡ h.standing ∷ before
  pub before_many : length before ≡ r.state.counts.iterations
  pub below : (e : ℕ) → In e h.stood → e < top
  pub count_bounds : CountBounds h.mu r.state.counts r.state.search since
  pub below_limit : r.state.counts.iterations < r.state.sizes.limit
  pub stands :
      let w = memory_of r.state r.area in
      Stands r.state.sizes h.rows h.standing before
      (standing_answer r.state w) w.filter
  pub asked_point : (memory_of r.state r.area).asked ≡ h.points r.state.counts.question

pub record Corrected (h : History) (r : Run) : Type 0 where
  pub tried : Tried h r (2 + r.state.counts.corrections) r.state.counts.landed
  pub landed_below : r.state.counts.landed < r.state.counts.question
  pub few : r.state.counts.corrections ≤ 3
  pub landed-rows :
      FittingRows r.state.sizes (h.rows r.state.counts.landed)
      (landed_answer r.state (memory_of r.state r.area))
  pub landed_point : (memory_of r.state r.area).landed ≡ h.points r.state.counts.landed

pub record Started (h : History) (r : Run) : Type 0 where
  pub changes_are : h.changes ≡ 0
  pub asked_is : h.asked ≡ 0
  pub standing_is : h.standing ≡ 0
  pub stood_is : h.stood ≡ 0 ∷ []
  pub own_standing : r.state.counts.standing ≡ 0
  pub count_bounds : CountBounds h.mu r.state.counts r.state.search 0

abbrev pub Phased : History → Run → Option Kind → Type 0
Phased h r (Some kind.Start) = Started h r
Phased h r (Some kind.Trial) = Tried h r 1 r.state.counts.question
Phased h r (Some kind.Correction) = Corrected h r
Phased h r None = Unit

pub record Inv (z : Sizes) (h : History) (r : Run) : Type 0 where
  pub sizes_are : r.state.sizes ≡ z
  pub sound : Sound r.state
  pub counted : r.state.counts.iterations ≡ h.changes
  pub point : (memory_of r.state r.area).standing ≡ h.points h.standing
  pub phased : Phased h r r.state.phase

-- ---- inside a call

-- a call whose answer is no refusal enters these rows
pub record CallContext : Type 0 where
  pub history : History
  pub call : Call
  pub run : Run
  pub rows : ℕ → AnsweredRows
  pub before : List ℕ
  pub enters : (a : Event) → is_refused a ≡ false → rows_by history call a ≡ rows
  pub stood_is : history.stood ≡ history.standing ∷ before
  pub changes_are : history.changes ≡ length before

pub record Halves (S : CallContext) (z : Sizes) (standing : ℕ) (last : Option Scalar) : Type 0 where
  pub not_damped : S.run.state.search.mu ≡ S.history.mu
  pub undecided : Undecided z (S.rows S.history.standing) (S.rows standing)
  pub shorter : T (halves S.run.state.last last)

-- a change of standing: each point that stood had rows, and it is exact progress or halves
pub record Forward (S : CallContext) (z : Sizes) (standing : ℕ) (last : Option Scalar) : Type 0 where
  pub answered : (e : ℕ) → In e (standing ∷ S.history.stood) → Answered z (S.rows e)
  pub exact :
      ((e : ℕ) → In e S.history.stood → Lower z (S.rows e) (S.rows standing)) ⊎ Halves S z standing last

-- the point that stood still stands, in its iteration, or the landed one does, in a new one
pub data Way (S : CallContext) (z : Sizes) (standing : ℕ) (before : List ℕ) (last : Option Scalar) (mu : Scalar) : Type 0 where
  unmoved :
      standing ≡ S.history.standing → before ≡ S.before → mu ≡ S.history.mu → Way S z standing before last mu
  moved :
      standing ≢ S.history.standing →
      before ≡ S.history.standing ∷ S.before →
      mu ≡ next_mu S.run.state.search.mu → Forward S z standing last → Way S z standing before last mu

-- A state, by its sizes, counts, last length and the damping that its iteration began with, with the standing point,
-- its rows and the filter.
pub record ConsistentWith (S : CallContext) (z : Sizes) (k : Counts) (last : Option Scalar) (mu : Scalar)
    (own : List Float) (rows : Answer) (filter : List Float) : Type 0 where
  pub before : List ℕ
  pub way : Way S z k.standing before last mu
  pub before_many : length before ≡ k.iterations
  pub below : (e : ℕ) → In e (k.standing ∷ before) → e ≤ k.question
  pub stands : Stands z S.rows k.standing before rows filter
  pub point : own ≡ S.history.points k.standing
  pub sizes-fit : sizes_fit z ≡ true
  pub within : k.iterations ≤ z.limit
  pub few_asked : k.question ≤ 5500 * z.limit
  pub few_corrections : k.corrections ≤ 4

abbrev pub Consistent : CallContext → State → Scalar → Memory → Type 0
Consistent S st mu w =
    ConsistentWith S st.sizes st.counts st.last mu w.standing (standing_answer st w) w.filter

-- what a call over the area that the call before left, left itself
abbrev pub played_to : AfterSlots → CallResult
played_to o = let l = in_area o in call_result_by l l.area

-- what a call leaves, unless its answer is 5 or 6, where the lists of its memory have the numbers in use
abbrev pub After : CallContext → Sizes → AfterSlots → Type 0
After S z o =
    let p = played_to o in
    let h' = entered S.history S.run S.call p in
    is_arithmetic o.event ≡ false → lengths_of o.memory ≡ used_in o.state →
    Inv z h' p.run × Claim z S.history h' S.run p
