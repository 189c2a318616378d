-- The C state, a run as C and Rust hold it: every field of the state, its enums by number (PROTOCOL, What the run
-- keeps). `c_state_of` gives the numbers, `state_of` reads them back and refuses by number 4 those that are
-- none.
use Rattle.std.specs.Prelude.{ℕ, Bool, ◌&&◌, eqb, ltb, None, Option, Some}
use Rattle.interval.specs.declared.Scalar.{Scalar}
use Rattle.interval.specs.Result.{Res, ok, refused}
use Rattle.interval.specs.Scalar.{zero_s, pick}
use Rattle.run.specs.declared.state.Kind.{Kind}
use Rattle.run.specs.declared.state.Kind.TheVariants as kind
use Rattle.run.specs.declared.state.Rejection.{Rejection}
use Rattle.run.specs.declared.state.Rejection.TheVariants as why
use Rattle.run.specs.declared.state.Contents.{Contents}
use Rattle.run.specs.declared.state.Counts.{Counts}
use Rattle.run.specs.declared.state.Search.{Search}
use Rattle.run.specs.declared.state.Sizes.{Sizes}
use Rattle.run.specs.declared.state.State.{State}
use Rattle.yadzvego.specs.declared.c_state.Run.{Run}

-- ---- the numbers

abbrev pub kind_number : Kind → ℕ
kind_number kind.Start = 0
kind_number kind.Trial = 1
kind_number kind.Correction = 2

abbrev pub phase_number : Option Kind → ℕ
phase_number (Some k) = kind_number k
phase_number None = 3

abbrev pub rejection_number : Option Rejection → ℕ
rejection_number None = 0
rejection_number (Some why.NotPositive) = 1
rejection_number (Some why.Infeasible) = 2
rejection_number (Some why.Unresolved) = 3
rejection_number (Some why.NotLower) = 4

abbrev pub last_number : Option Scalar → ℕ
last_number None = 0
last_number (Some x) = 1

abbrev pub last_length : Option Scalar → Scalar
last_length None = zero_s
last_length (Some x) = x

unfoldable pub c_state_of : State → Run
c_state_of st = record {
  n = st.sizes.n;
  s = st.sizes.s;
  limit = st.sizes.limit;
  iterations = st.counts.iterations;
  question = st.counts.question;
  standing = st.counts.standing;
  landed = st.counts.landed;
  corrections = st.counts.corrections;
  standing_m = st.contents.standing_m;
  landed_m = st.contents.landed_m;
  turned_down = st.search.turned_down;
  mu = st.search.mu;
  radius = st.search.radius;
  predicted = st.trial.predicted;
  tried = st.trial.tried;
  max_step = st.max_step;
  last_length = last_length st.last;
  phase = phase_number st.phase;
  rejected = rejection_number st.search.rejected;
  last = last_number st.last;
  first = st.search.first;
  plain = st.search.plain;
  moving = st.moving;
}

-- ---- read back

-- each number is that of a case
unfoldable pub numbers_fit : Run → Bool
numbers_fit r = ltb r.phase 4 && (ltb r.rejected 5 && ltb r.last 2)

abbrev pub phase_at : ℕ → Option Kind
phase_at k =
    pick (eqb k 0) (Some kind.Start) (pick (eqb k 1) (Some kind.Trial) (pick (eqb k 2) (Some kind.Correction) None))

abbrev pub rejection_at : ℕ → Option Rejection
rejection_at k = pick (eqb k 0) None (pick (eqb k 1) (Some why.NotPositive)
    (pick (eqb k 2) (Some why.Infeasible) (pick (eqb k 3) (Some why.Unresolved) (Some why.NotLower))))

abbrev pub last_at : ℕ → Scalar → Option Scalar
last_at k length = pick (eqb k 0) None (Some length)

abbrev pub sizes_at : Run → Sizes
sizes_at r = record { n = r.n; s = r.s; limit = r.limit }

abbrev pub counts_at : Run → Counts
counts_at r = record {
  iterations = r.iterations;
  question = r.question;
  standing = r.standing;
  landed = r.landed;
  corrections = r.corrections;
}

abbrev pub contents_at : Run → Contents
contents_at r = record { standing_m = r.standing_m; landed_m = r.landed_m }

abbrev pub search_at : Run → Search
search_at r = record {
  mu = r.mu;
  radius = r.radius;
  turned_down = r.turned_down;
  first = r.first;
  plain = r.plain;
  rejected = rejection_at r.rejected;
}

-- the state, where the numbers fit
unfoldable pub state_at : Run → State
state_at r = record {
  sizes = sizes_at r;
  counts = counts_at r;
  contents = contents_at r;
  search = search_at r;
  trial = record { predicted = r.predicted; tried = r.tried };
  max_step = r.max_step;
  last = last_at r.last r.last_length;
  phase = phase_at r.phase;
  moving = r.moving;
}

unfoldable pub state_of : Run → Res State
state_of r = pick (numbers_fit r) (ok (state_at r)) (refused 4)
