-- `minus_scaled`: a run of scalars less a multiple of another, each chosen.
use Rattle.std.specs.Prelude.{ℕ, ◌+◌, List, Float}
use Rattle.interval.specs.declared.Scalar.{Scalar}
use Rattle.interval.specs.Scalar.{sub_of, mul_of}
use Rattle.linear.specs.Flat.{at, fill_to}
use Rattle.linear.specs.Choose.{choose_of}

-- k places of v from v0 on, less a times those of w from w0 on, each chosen
unfoldable pub minus_scaled : List Float → ℕ → Scalar → List Float → ℕ → ℕ → List Float
minus_scaled v v0 a w w0 k = fill_to v v0 (λ p. choose_of (sub_of (at v (v0 + p)) (mul_of a (at w (w0 + p))))) k
