-- For private functions: a step taken, once the damping and the radius after it are known.
use Rattle.interval.specs.declared.Scalar.{Scalar}
use Rattle.run.specs.Area.{Memory, with_taken, standing_at, landed_at, curvature_of}
use Rattle.run.specs.Curvature.{update_curvature}
use Rattle.run.specs.Endings.{AfterSlots, or_refuse}
use Rattle.run.specs.Filter.{filter_with}
use Rattle.run.specs.Iterate.{iterate}
use Rattle.run.specs.Residuals.{sum_squared}
use Rattle.run.specs.State.{standing_on}
use Rattle.run.specs.declared.state.State.{State}

-- a step taken, once the damping and the radius after it are known
abbrev pub taken_with : State → Memory → Scalar → Scalar → Scalar → Scalar → AfterSlots
taken_with st w theta length mu radius =
    let learned =
    update_curvature st.sizes.n (curvature_of st w) w.step (standing_at st w) (landed_at st w) w.multipliers in
    or_refuse st w learned
    (λ b.
    iterate (standing_on st length mu radius)
    (with_taken w b (filter_with w.filter (sum_squared (standing_at st w).sum) theta)))
