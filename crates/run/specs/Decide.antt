-- What a judgement decides (PROTOCOL, An iteration): the run stops, takes the step, tries again without the curvature
-- learned, or
-- turns the step down.
use Rattle.std.specs.Prelude.{not, ◌&&◌, Bool, false, true, ◌||◌, None, Option, Some}
use Rattle.interval.specs.Result.{Res, ok, refused}
use Rattle.interval.specs.Scalar.{degenerate, div_of, sharpen, pick, sub_of, mul_of, definitely_greater, zero_s}
use Rattle.interval.specs.Scaling.{four64, three64}
use Rattle.interval.specs.declared.Scalar.{Scalar}
use Rattle.run.specs.Area.{Memory, landed_at, with_taken, standing_at, curvature_of, pairs_in}
use Rattle.run.specs.Curvature.{learned_of, update_curvature}
use Rattle.run.specs.Damping.{damped, shrunk}
use Rattle.run.specs.Endings.{AfterSlots, finish, or_refuse}
use Rattle.run.specs.Filter.{filter_with}
use Rattle.run.specs.Iterate.{search, iterate}
use Rattle.run.specs.Judgement.{Judged, judge_of}
use Rattle.run.specs.Radius.{radius_after}
use Rattle.run.specs.Residuals.{violation_of, sum_squared}
use Rattle.run.specs.State.{searching, rejected_for, with_radius, retried, standing_on}
use Rattle.run.specs.declared.state.Rejection.{Rejection}
use Rattle.run.specs.declared.state.Rejection.TheVariants as why
use Rattle.run.specs.declared.state.State.{State}
use Rattle.run.specs.declared.state.Stop.TheVariants as stop

-- ---- a step turned down

-- with more damping, while that is finite
unfoldable pub grow : State → Memory → AfterSlots
grow st w = damped (λ y. search (searching st y) w) (λ y s. finish (searching st y) w s) st.search

-- a quarter of the length tried is the radius, and more damping
unfoldable pub turn_down : State → Memory → Rejection → AfterSlots
turn_down st w r =
    let x = rejected_for st.search r in
    or_refuse (searching st x) w (div_of st.trial.tried (degenerate four64))
    (λ q. grow (searching st (with_radius x (sharpen q))) w)

-- not lower: tried again without the curvature learned, once in an iteration, or turned down
unfoldable pub not_lower : State → Memory → AfterSlots
not_lower st w =
    pick (not st.search.plain && learned_of st.sizes.n w.curvature)
    (search (searching st (retried (rejected_for st.search why.NotLower))) w)
    (turn_down st w why.NotLower)

-- ---- a step taken

-- the violation fell by three quarters of the drop that was predicted, at least
abbrev pub held : Scalar → Scalar → Scalar → Bool
held old predicted new =
    definitely_greater (mul_of (sub_of old new) (degenerate four64)) (mul_of (sub_of old predicted) (degenerate three64))

-- the constraints came as near as their linearization said; asked only where there was a violation
abbrev pub linear_of : State → Memory → Scalar → Res Bool
linear_of st w theta =
    pick (definitely_greater theta zero_s) (held_at (violation_of (landed_at st w).constraints)) (ok false)
  where
    held_at : Res Scalar → Res Bool
    held_at (ok new) = ok (held theta st.trial.predicted new)
    held_at (refused k) = refused k

unfoldable pub take : State → Memory → Scalar → Scalar → AfterSlots
take st w theta length =
    or_refuse st w (linear_of st w theta)
    (λ linear.
    or_refuse st w (div_of st.search.mu (degenerate three64))
    (λ third.
    let learned =
    update_curvature st.sizes.n (curvature_of st w) w.step (standing_at st w) (landed_at st w) w.multipliers in
    let radius = radius_after length st.search.radius st.max_step linear in
    or_refuse st w learned
    (λ b.
    iterate (standing_on st length (shrunk st.search.mu third) radius)
    (with_taken w b (filter_with w.filter (sum_squared (standing_at st w).sum) theta)))))

-- ---- the judgement of the landed point

abbrev pub was_taken : Option Scalar → Bool
was_taken None = false
was_taken (Some l) = true

unfoldable pub decide : State → Memory → Scalar → Judged → AfterSlots
decide st w theta j =
    pick (st.search.first && j.undecided && was_taken st.last && not j.contracting) (finish st w stop.Undecided)
    (pick (j.lower || (st.search.first && j.undecided && j.contracting)) (take st w theta j.length)
    (not_lower st w))

unfoldable pub judge : State → Memory → Scalar → AfterSlots
judge st w theta =
    or_refuse st w
    (judge_of st.sizes.n (standing_at st w) (landed_at st w) theta w.filter (pairs_in st) st.last
    w.step)
    (λ j. decide st w theta j)
