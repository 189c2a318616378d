-- `judge`: how a step fares where it landed (PROTOCOL, An iteration).
use Rattle.std.specs.Prelude.{ℕ, Bool, not, ◌&&◌, false, ◌||◌, List, Float, None, Option, Some}
use Rattle.interval.specs.Result.{Res, ok}
use Rattle.interval.specs.Scalar.{add_of, sub_of, zero_s, definitely_greater, definitely_less, two64, degenerate, mul_of}
use Rattle.interval.specs.declared.Scalar.{Scalar}
use Rattle.linear.specs.Dot.{dot_to}
use Rattle.linear.specs.Flat.{at}
use Rattle.linear.specs.Norm.{norm_of}
use Rattle.linear.specs.Results.{bind}
use Rattle.run.specs.Filter.{beats_to}
use Rattle.run.specs.Residuals.{sum_squared, violation_of}
use Rattle.run.specs.Rows.{Rows, value_at, Evaluation}
pub use Rattle.run.specs.declared.judgement.Judged.{Judged}

-- the sum change Σ (r - r') (r + r')
unfoldable pub sum_change : Rows → Rows → Scalar
sum_change e e' = dot_to (λ i. sub_of (value_at e i) (value_at e' i)) (λ i. add_of (value_at e i) (value_at e' i)) e.count

abbrev pub rises : Scalar → Bool
rises v = definitely_greater v zero_s

-- no sign can be told: the interval holds 0
abbrev pub indefinite : Scalar → Bool
indefinite v = not (definitely_greater v zero_s) && not (definitely_less v zero_s)

-- a step was taken before, and twice this length is definitely less than its length
abbrev pub contracts : Option Scalar → Scalar → Bool
contracts None length = false
contracts (Some last) length = definitely_less (mul_of (degenerate two64) length) last

-- from the sum change, the fall in violation, whether every pair is beaten, the length and the last one
abbrev pub judged_by : Scalar → Scalar → Bool → Scalar → Option Scalar → Judged
judged_by change fall beats length last = record {
  length = length;
  lower = (rises change || rises fall) && beats;
  undecided = indefinite change && indefinite fall;
  contracting = contracts last length;
}

-- the step from the rows e with violation theta to the rows e', against the first pairs of the filter
unfoldable pub judge_of : ℕ → Evaluation → Evaluation → Scalar → List Float → ℕ → Option Scalar → List Float → Res Judged
unfolding bind
judge_of n e e' theta filter count last step =
    bind (norm_of (at step) n)
    (λ length.
    bind (violation_of e'.constraints)
    (λ theta'.
    let beaten = beats_to filter (sum_squared e'.sum) theta' count in
    ok (judged_by (sum_change e.sum e'.sum) (sub_of theta theta') beaten length last)))
