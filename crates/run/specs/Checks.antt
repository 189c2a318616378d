-- The checks of a call (PROTOCOL, Refusals): what is within the limits, and number 4, a run that no call leaves.
use Rattle.run.specs.declared.state.Kind.{Kind}
use Rattle.std.specs.Prelude.{ℕ, ◌+◌, ◌*◌, Bool, ◌&&◌, true, List, leb, ltb, Float, None, Option, Some}
use Rattle.std.specs.Float.Ieee.{neg, le}
use Rattle.interval.specs.Scalar.{zero_s, definitely_greater}
use Rattle.interval.specs.Scaling.{is_positive}
use Rattle.interval.specs.declared.Scalar.{Scalar}
use Rattle.linear.specs.Flat.{at}
use Rattle.run.specs.Limits.{VARIABLES, CONSTRAINTS, sum_rows, ITERATIONS, turn_downs, QUESTIONS, CORRECTIONS}
use Rattle.run.specs.Limits.{MOST}
use Rattle.run.specs.Vectors.{all_to}
use Rattle.run.specs.declared.state.Contents.{Contents}
use Rattle.run.specs.declared.state.Kind.TheVariants as kind
use Rattle.run.specs.declared.state.Sizes.{Sizes}
use Rattle.run.specs.declared.state.State.{State}

-- ---- limits

-- n, s and the limit
abbrev pub sizes_fit : Sizes → Bool
sizes_fit z = leb z.n VARIABLES && (leb z.s sum_rows && leb z.limit ITERATIONS)

-- the m of an answer
abbrev pub constraints_fit : ℕ → Bool
constraints_fit m = leb m CONSTRAINTS

-- an end in the domain: finite with magnitude at most 2^400, lo ≤ hi
abbrev pub in_domain : Scalar → Bool
in_domain x = le (neg MOST) x.lo && (le x.lo x.hi && le x.hi MOST)

abbrev pub all_in_domain : List Float → ℕ → Bool
all_in_domain xs count = all_to (λ i. in_domain (at xs i)) count

-- ---- number 4: a run that no call leaves

-- the most turn-downs that a run may have, and the most questions
abbrev pub most_turn_downs : State → ℕ
most_turn_downs st = turn_downs * (st.counts.iterations + 1)

abbrev pub most_questions : Sizes → ℕ
most_questions z = QUESTIONS * z.limit

-- each m that the state keeps, in use or not
abbrev pub contents_fit : Contents → Bool
contents_fit c = constraints_fit c.standing_m && constraints_fit c.landed_m

abbrev pub counts_fit : State → Bool
counts_fit st =
    leb st.counts.iterations st.sizes.limit
    && (leb st.search.turned_down (most_turn_downs st)
    && (leb st.counts.question (most_questions st.sizes)
    && leb st.counts.corrections CORRECTIONS))

-- with a trial or correction open, iterations are below the limit; with a question open, mu is finite with 0 < lo ≤ hi
abbrev pub phase_fits : State → Option Kind → Bool
phase_fits st (Some kind.Start) = is_positive st.search.mu
phase_fits st (Some kind.Trial) = ltb st.counts.iterations st.sizes.limit && is_positive st.search.mu
phase_fits st (Some kind.Correction) = ltb st.counts.iterations st.sizes.limit && is_positive st.search.mu
phase_fits st None = true

unfoldable pub valid : State → Bool
valid st =
    sizes_fit st.sizes && (contents_fit st.contents && (counts_fit st && phase_fits st st.phase))

-- `max_step` in the domain, with lo > 0
abbrev pub step_fits : Scalar → Bool
step_fits x = in_domain x && definitely_greater x zero_s
