-- The state of a run as it begins, and changed in one part. It keeps how many constraint rows the standing and the
-- landed answer have, 0 where their slots are not in use.
use Rattle.std.specs.Prelude.{◌+◌, ℕ, true, false, Bool, List, replicate, None, Option, Some}
use Rattle.interval.specs.Scalar.{zero_s}
use Rattle.interval.specs.declared.Scalar.{Scalar}
use Rattle.run.specs.Proposal.{Trial}
use Rattle.run.specs.declared.state.Contents.{Contents}
use Rattle.run.specs.declared.state.Kind.{Kind}
use Rattle.run.specs.declared.state.Rejection.{Rejection}
use Rattle.run.specs.declared.state.Search.{Search}
use Rattle.run.specs.declared.state.Sizes.{Sizes}
use Rattle.run.specs.declared.state.State.{State}

abbrev pub rejected_for : Search → Rejection → Search
rejected_for x r =
    record {
      mu = x.mu;
      radius = x.radius;
      turned_down = x.turned_down;
      first = x.first;
      plain = x.plain;
      rejected = Some r;
    }

abbrev pub with_radius : Search → Scalar → Search
with_radius x radius =
    record {
      mu = x.mu;
      radius = radius;
      turned_down = x.turned_down;
      first = x.first;
      plain = x.plain;
      rejected = x.rejected;
    }

-- the retry without the curvature learned: a turn-down, first and mu kept
abbrev pub retried : Search → Search
retried x =
    record {
      mu = x.mu;
      radius = x.radius;
      turned_down = x.turned_down + 1;
      first = x.first;
      plain = true;
      rejected = x.rejected;
    }

-- a new iteration's
abbrev pub anew : Search → Scalar → Scalar → Search
anew x mu radius =
    record {
      mu = mu;
      radius = radius;
      turned_down = x.turned_down;
      first = true;
      plain = false;
      rejected = None;
    }

-- ---- the state, changed in one part

abbrev pub searching : State → Search → State
searching st x =
    record {
      sizes = st.sizes;
      counts = st.counts;
      contents = st.contents;
      search = x;
      trial = st.trial;
      max_step = st.max_step;
      last = st.last;
      phase = st.phase;
      moving = st.moving;
    }

abbrev pub in_phase : State → Option Kind → State
in_phase st phase =
    record {
      sizes = st.sizes;
      counts = st.counts;
      contents = st.contents;
      search = st.search;
      trial = st.trial;
      max_step = st.max_step;
      last = st.last;
      phase = phase;
      moving = st.moving;
    }

-- how many constraint rows the standing and the landed answer have
abbrev pub holding : ℕ → ℕ → Contents
holding standing landed = record { standing_m = standing; landed_m = landed }

-- no question is open: of the slots only that of the standing point is in use
abbrev pub over : State → State
over st =
    record {
      sizes = st.sizes;
      counts = st.counts;
      contents = holding 0 0;
      search = st.search;
      trial = st.trial;
      max_step = st.max_step;
      last = st.last;
      phase = None;
      moving = st.moving;
    }

-- the start was answered with m constraint rows
abbrev pub starting : State → ℕ → List Bool → State
starting st m moving =
    record {
      sizes = st.sizes;
      counts = st.counts;
      contents = holding m 0;
      search = st.search;
      trial = st.trial;
      max_step = st.max_step;
      last = st.last;
      phase = st.phase;
      moving = moving;
    }

-- the next question, of that kind and after so many corrections
abbrev pub asking : State → Kind → ℕ → State
asking st k corrections = record {
  sizes = st.sizes;
  counts =
      record {
        iterations = st.counts.iterations;
        question = st.counts.question + 1;
        standing = st.counts.standing;
        landed = st.counts.landed;
        corrections = corrections;
      };
  contents = st.contents;
  search = st.search;
  trial = st.trial;
  max_step = st.max_step;
  last = st.last;
  phase = Some k;
  moving = st.moving;
}

-- the open question's point landed, with m constraint rows and after so many corrections
abbrev pub landing : State → ℕ → ℕ → State
landing st m corrections = record {
  sizes = st.sizes;
  counts =
      record {
        iterations = st.counts.iterations;
        question = st.counts.question;
        standing = st.counts.standing;
        landed = st.counts.question;
        corrections = corrections;
      };
  contents = holding st.contents.standing_m m;
  search = st.search;
  trial = st.trial;
  max_step = st.max_step;
  last = st.last;
  phase = st.phase;
  moving = st.moving;
}

-- a search left with a trial: nothing has landed
abbrev pub trying : State → Search → Trial → State
trying st x t = record {
  sizes = st.sizes;
  counts = st.counts;
  contents = holding st.contents.standing_m 0;
  search = x;
  trial = record { predicted = t.predicted; tried = t.tried };
  max_step = st.max_step;
  last = st.last;
  phase = st.phase;
  moving = st.moving;
}

-- the landed point stands: a change of standing, and an iteration
abbrev pub standing_on : State → Scalar → Scalar → Scalar → State
standing_on st length mu radius = record {
  sizes = st.sizes;
  counts =
      record {
        iterations = st.counts.iterations + 1;
        question = st.counts.question;
        standing = st.counts.landed;
        landed = st.counts.landed;
        corrections = st.counts.corrections;
      };
  contents = holding st.contents.landed_m st.contents.landed_m;
  search = anew st.search mu radius;
  trial = st.trial;
  max_step = st.max_step;
  last = Some length;
  phase = st.phase;
  moving = st.moving;
}

abbrev pub state_with : Sizes → Scalar → Scalar → Option Kind → State
state_with z mu max p = record {
  sizes = z;
  counts = record { iterations = 0; question = 0; standing = 0; landed = 0; corrections = 0 };
  contents = holding 0 0;
  search = record { mu = mu; radius = max; turned_down = 0; first = true; plain = false; rejected = None };
  trial = record { predicted = zero_s; tried = zero_s };
  max_step = max;
  last = None;
  phase = p;
  moving = replicate 12 false;
}

-- beside a refused begin: no run, so any reply to it gets 4
abbrev pub no_run : State
no_run = state_with (record { n = 0; s = 0; limit = 0 }) zero_s zero_s None
