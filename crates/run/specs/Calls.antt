-- The calls of a run, whole: begin, reply with rows, reply none, and point. The checks go in the order of PROTOCOL,
-- Refusals.
use Rattle.run.specs.declared.refusal.Refusal.{Refusal}
use Rattle.run.specs.declared.refusal.Refusal.TheVariants.{Altered, OutsideDomain, TooMany, WrongLength}
use Rattle.std.specs.Prelude.{None, Option, Some}
use Rattle.run.specs.declared.state.Kind.{Kind}
use Rattle.std.specs.Prelude.{ℕ, ◌*◌, ◌+◌, Bool, false, true, ◌&&◌, ◌||◌, List, [], ◌≡◌, T, leb, eqb, Float, length}
use Rattle.interval.specs.Scalar.{pick}
use Rattle.interval.specs.declared.Scalar.{Scalar}
use Rattle.run.specs.Answered.{answered, answered_none}
use Rattle.run.specs.Area.{area_of, begun_memory, memory_of, area_length, point_at}
use Rattle.run.specs.Area.{numbers_in, part_of}
use Rattle.run.specs.Checks.{sizes_fit, constraints_fit, all_in_domain, step_fits, valid}
use Rattle.run.specs.Damping.{first_mu}
use Rattle.run.specs.Endings.{AfterSlots}
use Rattle.run.specs.Refusal.{number_of}
use Rattle.run.specs.Rows.{row_numbers, row_counts}
use Rattle.run.specs.State.{state_with, no_run}
use Rattle.run.specs.declared.state.Event.{Event}
use Rattle.run.specs.declared.state.Event.TheVariants as event
use Rattle.run.specs.declared.state.Kind.TheVariants as kind
use Rattle.run.specs.declared.state.Returned.{Returned}
use Rattle.run.specs.declared.state.Sizes.{Sizes}
use Rattle.run.specs.declared.state.State.{State}

-- ---- the state and the numbers of the area that a call leaves, with its answer

pub record AfterCall : Type 0 where
  pub state : State
  pub event : Event
  pub area : List Float

-- what a call returns, with the area after it
abbrev pub after_call : Returned → List Float → AfterCall
after_call r a = record { state = r.state; event = r.event; area = a }

-- refused with all as it was
abbrev pub unchanged : State → List Float → Refusal → AfterCall
unchanged st a r = record { state = st; event = event.Refused r; area = a }

abbrev pub in_area : AfterSlots → AfterCall
in_area o = record { state = o.state; event = o.event; area = area_of o.state.sizes o.memory }

-- a refusal by 1 to 4: by a check, before anything is worked out
abbrev pub refused_by_check : Event → Bool
refused_by_check (event.Question k t s) = false
refused_by_check (event.Finish s i t n) = false
refused_by_check (event.Refused r) = leb (number_of r) 4

-- An accepted reply to the question of that number asks the next one, or the run is over: it finishes, or is refused by
-- 5 or 6.
abbrev pub Follows : ℕ → State → Event → Type 0
Follows question st (event.Question k t s) = (k ≡ question + 1) × (st.counts.question ≡ k)
Follows question st (event.Finish s i t n) = st.phase ≡ None
Follows question st (event.Refused r) = T (eqb (number_of r) 5 || eqb (number_of r) 6) × (st.phase ≡ None)

-- a check that refuses so, and what follows
abbrev pub checks : Bool → Refusal → (Refusal → AfterCall) → AfterCall → AfterCall
checks true r back next = next
checks false r back next = back r

unfoldable pub begin_of : Sizes → List Float → Scalar → List Float → AfterCall
begin_of z start max a =
    let back = unchanged no_run a in
    checks (sizes_fit z) TooMany back
    (checks (eqb (length start) (2 * z.n) && eqb (length a) (area_length z)) WrongLength back
    (checks (all_in_domain start z.n && step_fits max) OutsideDomain back
    (record {
      state = state_with z first_mu max (Some kind.Start);
      event = event.Question 0 kind.Start 0;
      area = area_of z (begun_memory start);
    })))

-- begun: the first question
abbrev pub begun_of : Sizes → List Float → Scalar → AfterCall
begun_of z start max =
    record {
      state = state_with z first_mu max (Some kind.Start);
      event = event.Question 0 kind.Start 0;
      area = area_of z (begun_memory start);
    }

-- a begin that is accepted asks question 0, which is the start's
abbrev pub Accepted : AfterCall → Type 0
Accepted b = b.event ≡ event.Question 0 kind.Start 0

-- ---- the replies

-- rows with m constraint rows among them
abbrev pub reply_open : State → List Float → ℕ → List Float → Option Kind → AfterCall
reply_open st a m rows None = unchanged st a Altered
reply_open st a m rows (Some k) =
    let c = row_counts st.sizes m in
    checks (constraints_fit m) TooMany (unchanged st a)
    (checks (eqb (length a) (area_length st.sizes) && eqb (length rows) (row_numbers c)) WrongLength (unchanged st a)
    (checks (all_in_domain rows ((c.m + c.s) * (c.n + 1))) OutsideDomain (unchanged st a)
    (in_area (answered k st (memory_of st a) m rows))))

unfoldable pub reply_of : State → List Float → ℕ → List Float → AfterCall
reply_of st a m rows = checks (valid st) Altered (unchanged st a) (reply_open st a m rows st.phase)

abbrev pub none_open : State → List Float → Option Kind → AfterCall
none_open st a None = unchanged st a Altered
none_open st a (Some k) =
    checks (eqb (length a) (area_length st.sizes)) WrongLength (unchanged st a) (in_area (answered_none k st (memory_of st a)))

unfoldable pub reply_none_of : State → List Float → AfterCall
reply_none_of st a = checks (valid st) Altered (unchanged st a) (none_open st a st.phase)

-- ---- the point: the asked one, or with no question open the standing one

unfoldable pub point_of : State → List Float → List Float
point_of st a =
    pick (valid st && eqb (length a) (area_length st.sizes))
    (part_of a (point_at st.sizes st.phase) (numbers_in st).standing) []
