-- The radius (PROTOCOL, An iteration): a step cut to it, and what it is after a step was taken.
use Rattle.std.specs.Prelude.{ℕ, Bool, ◌||◌, List, Float}
use Rattle.interval.specs.Result.{Res, ok}
use Rattle.interval.specs.Scalar.{mul_of, pick, div_of, definitely_greater, two64, degenerate, upper, definitely_less}
use Rattle.interval.specs.declared.Scalar.{Scalar}
use Rattle.linear.specs.Choose.{choose_of}
use Rattle.linear.specs.Flat.{at}
use Rattle.linear.specs.Norm.{norm_of}
use Rattle.linear.specs.Results.{bind}
use Rattle.run.specs.Vectors.{fill_to}

-- a step times shrink, chosen
unfoldable pub cut_of : ℕ → List Float → Scalar → List Float
cut_of n delta shrink = fill_to delta 0 (λ i. choose_of (mul_of (at delta i) shrink)) n

-- a step, cut where it is definitely longer than the radius
unfoldable pub cut_within : ℕ → Scalar → List Float → Res (List Float)
unfolding bind
cut_within n radius delta =
    bind (norm_of (at delta) n)
    (λ length.
    pick (definitely_greater length radius) (bind (div_of radius length) (λ shrink. ok (cut_of n delta shrink)))
    (ok delta))

-- the radius after a step of that length
abbrev pub radius_after : Scalar → Scalar → Scalar → Bool → Scalar
radius_after length radius max linear =
    let reach = mul_of (degenerate two64) length in
    pick (definitely_greater reach radius) (pick (linear || definitely_less reach max) (upper reach) max) radius
