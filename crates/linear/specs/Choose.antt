-- `choose` (PROTOCOL, Lists): +0 where zero touches the interval, else the middle. `sharp` chooses each of a list.
use Rattle.std.specs.Prelude.{ℕ, List, Float}
use Rattle.interval.specs.declared.Scalar.{Scalar}
use Rattle.interval.specs.Scalar.{zero_s, pick, could_be_equal, sharpen}
use Rattle.linear.specs.Flat.{at, list_to}

unfoldable pub choose_of : Scalar → Scalar
choose_of v = pick (could_be_equal v zero_s) zero_s (sharpen v)

unfoldable pub sharp_of : List Float → ℕ → List Float
sharp_of v n = list_to (λ i. choose_of (at v i)) n
