-- `corrected`: a step that left the constraints further off is moved back onto them, by at most 4 corrections. Each is
-- the shortest move that meets the constraints linearized where it begins.
use Rattle.std.specs.Prelude.{ℕ, ◌*◌, ◌/◌, ◌%◌, ◌+◌, Bool, false, List, leb, Float, get_or}
use Rattle.interval.specs.Result.{Res, ok}
use Rattle.interval.specs.Scalar.{zero_s, pick, sharpen, add_of, definitely_greater, definitely_less}
use Rattle.interval.specs.declared.Scalar.{Scalar}
use Rattle.linear.specs.Choose.{choose_of}
use Rattle.linear.specs.Flat.{at, zeros, list_to}
use Rattle.linear.specs.Results.{bind}
use Rattle.linear.specs.Solved.{minus_solved_of}
use Rattle.run.specs.Area.{Memory, with_asked, landed_at, with_landed, rows_at}
use Rattle.run.specs.Decide.{judge}
use Rattle.run.specs.Endings.{AfterSlots, question, or_refuse}
use Rattle.run.specs.Limits.{CORRECTIONS}
use Rattle.run.specs.Residuals.{violation_of}
use Rattle.run.specs.Rows.{Rows, slope_at, value_at}
use Rattle.run.specs.State.{landing}
use Rattle.run.specs.Vectors.{vector, fill_to, all_finite, moved_of, same_of}
use Rattle.run.specs.declared.state.Kind.TheVariants as kind
use Rattle.run.specs.declared.state.State.{State}

-- the slope of row i by variable j, chosen; zero for one that does not move
abbrev pub moving_slope : List Bool → Rows → ℕ → ℕ → Scalar
moving_slope moving c i j = pick (get_or moving j false) (choose_of (slope_at c i j)) zero_s

-- the shift d
unfoldable pub shift_of : List Bool → Rows → Res (List Float)
unfolding bind
shift_of moving c =
    let n = c.n in
    let m = c.count in
    let jc = list_to (λ p. moving_slope moving c (p / n) (p % n)) (m * n) in
    bind (minus_solved_of m n jc (list_to (λ i. choose_of (value_at c i)) m) (zeros (2 * n)))
    (λ d. ok (fill_to vector 0 (λ i. sharpen (at d i)) n))

pub data Shift : Type 0 where
  to : List Float → Shift
  stay : Shift

-- where the shift takes the landed point; a shift that is not finite, then one that changes nothing, ends the
-- corrections
unfoldable pub shift_from : List Bool → Rows → List Float → Res Shift
unfolding bind
shift_from moving c landed =
    bind (shift_of moving c)
    (λ d.
    let next = moved_of c.n landed d in
    ok (pick (all_finite d 12) (pick (same_of c.n next landed) stay (to next)) stay))

-- the step with a shift added, sharp
unfoldable pub shifted_step : ℕ → List Float → List Float → List Float
shifted_step n step d = fill_to step 0 (λ i. sharpen (add_of (at step i) (at d i))) n

-- ---- corrections

unfoldable pub correct : State → Memory → Scalar → AfterSlots
correct st w theta = or_refuse st w (shift_from st.moving (landed_at st w).constraints w.landed) (λ s. shifted s)
  where
    shifted : Shift → AfterSlots
    shifted (to next) = question st (with_asked st w next) kind.Correction st.counts.corrections
    shifted stay = judge st w theta

-- a trial's rows, m constraint rows among them: corrections only where the violation definitely rose
unfoldable pub land_trial : State → Memory → ℕ → List Float → Scalar → AfterSlots
land_trial st w m rows theta =
    let t = landing st m 0 in
    let v = with_landed w rows w.step in
    or_refuse t v (violation_of (landed_at t v).constraints)
    (λ new. pick (definitely_greater new theta) (correct t v theta) (judge t v theta))

-- a correction's rows, nearer the constraints: kept
unfoldable pub keep : State → Memory → ℕ → List Float → Scalar → AfterSlots
keep st w m rows theta =
    or_refuse st w (shift_of st.moving (landed_at st w).constraints)
    (λ d.
    let t = landing st m (st.counts.corrections + 1) in
    let v = with_landed w rows (shifted_step st.sizes.n w.step d) in
    pick (leb CORRECTIONS t.counts.corrections) (judge t v theta) (correct t v theta))

unfoldable pub land_correction : State → Memory → ℕ → List Float → Scalar → AfterSlots
land_correction st w m rows theta =
    or_refuse st w (violation_of (rows_at st m rows).constraints)
    (λ new.
    or_refuse st w (violation_of (landed_at st w).constraints)
    (λ old. pick (definitely_less new old) (keep st w m rows theta) (judge st w theta)))
