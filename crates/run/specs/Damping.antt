-- The damping mu (PROTOCOL, An iteration): the first, the next after a step was taken, and more of it after one was
-- turned down.
use Rattle.std.specs.Prelude.{◌+◌, false, pos}
use Rattle.interval.specs.Scalar.{from_ratio, pick, is_finite, zero_s, sharpen, definitely_greater}
use Rattle.interval.specs.Scaling.{quadrupled}
use Rattle.interval.specs.declared.Scalar.{Scalar}
use Rattle.run.specs.Vectors.{or_zero}
use Rattle.run.specs.declared.state.Search.{Search}
use Rattle.run.specs.declared.state.Stop.{Stop}
use Rattle.run.specs.declared.state.Stop.TheVariants as stop

-- the first damping, 1/1000 stepped outward
abbrev pub first_mu : Scalar
first_mu = or_zero (from_ratio (pos 1) (pos 1000))

-- more damping: mu = 4 mu sharpened, a turn-down, and no longer the first damping
abbrev pub grown : Search → Search
grown x = record {
  mu = quadrupled x.mu;
  radius = x.radius;
  turned_down = x.turned_down + 1;
  first = false;
  plain = x.plain;
  rejected = x.rejected;
}

-- the search goes on with more damping while that is finite, and stops where it is not
abbrev pub damped : {A : Type 0} → (Search → A) → (Search → Stop → A) → Search → A
damped on stop_at x = pick (is_finite (grown x).mu) (on (grown x)) (stop_at (grown x) (stop.Damped x.rejected))

-- the quotient mu / 3 sharpened, if that is definitely positive
abbrev pub shrunk : Scalar → Scalar → Scalar
shrunk mu q = pick (definitely_greater (sharpen q) zero_s) (sharpen q) mu
