-- `step_at` meets its contract: where the checks passed the counts and lengths fit, and where there is no step both
-- slices are cleared.
use Rattle.std.specs.Prelude.{ℕ, List, Float, true, false, Option, Some, None, Result, Ok, Err, is_some}
use Rattle.std.specs.Option.{option_flatten}
use Rattle.std.specs.Result.{result_ok}
use mathlib.Core.Bool.{true≢false}
use mathlib.Core.Path.{◌≡◌, refl, ap, sym, ◌∙◌}
use Rattle.linear.specs.declared.results.LinearError.{LinearError}
use Rattle.run.specs.Vectors.{vector}
use Rattle.run.specs.program.Step.{end_of}
use native.Mathlib.Omega.{arith}
use lib.ListN.{length}
use Rattle.run.specs.Pieces.{step_reply, step_reply_of, step_replied}
use Rattle.run.proofs.PieceLaws.{finished, fits_passed, wants_passed}
use Rattle.std.proofs.lemmas.Result.{err_from_is_err_and}
use Rattle.run.proofs.pieces.step_at.Goals as goal

pub returns-in_err-wants : goal.returns-in_err-wants
unfolding step_reply
returns-in_err-wants c =
    let p = err_from_is_err_and c.from_residual.result c.from_residual.ensures.1 in
    rw (
      p.1,
      p.2,
      ← c.fits-rows.ensures,
      ← c.wants.ensures,
      ← c.wants-2.ensures,
      c.in_err-wants.was,
    )

pub step-end-requires : goal.step-end-requires
step-end-requires c =
    let p = wants_passed _ _ _ (finished c.in_ok-wants.was)
    c.wants-2.ensures in
    let q = wants_passed _ _ _ p.0 c.wants.ensures in
    let r = fits_passed q.0 c.fits-rows.ensures in
    (r.sized.counts, r.second, record { delta_length = q.1; lambda_length = p.1 })

-- an end that is a step, and one that is none
found_kept : (end : Result (Option ℕ) LinearError) (delta lambda : List Float)
    → is_some (option_flatten (result_ok end)) ≡ true
    → step_replied end delta lambda ≡ step_reply_of vector vector (end_of end delta lambda)
found_kept (Ok (Some r)) delta lambda h = refl
found_kept (Ok None) delta lambda h = absurd (true≢false (sym h))
found_kept (Err e) delta lambda h = absurd (true≢false (sym h))

none_cleared : (end : Result (Option ℕ) LinearError) (delta lambda : List Float)
    → is_some (option_flatten (result_ok end)) ≡ false
    → step_replied end vector vector ≡ step_reply_of vector vector (end_of end delta lambda)
none_cleared (Ok (Some r)) delta lambda h = absurd (true≢false h)
none_cleared (Ok None) delta lambda h = refl
none_cleared (Err e) delta lambda h = refl

pub returns-then-is_none : goal.returns-then-is_none
unfolding step_reply
returns-then-is_none c =
    let p = wants_passed _ _ _ (finished c.in_ok-wants.was) c.wants-2.ensures in
    let q = wants_passed _ _ _ p.0 c.wants.ensures in
    let k = c.step-end in
    let long : length k.new.delta ≡ 24 = omega (arith, k.auto.delta, q.1) in
    let wide : length k.new.lambda ≡ 24 = omega (arith, k.auto.lambda, p.1) in
    rw (
      ← c.fits-rows.ensures,
      ← c.wants.ensures,
      ← c.wants-2.ensures,
      c.in_ok-wants.was,
      ← k.ensures,
      c.clear.ensures,
      c.clear-then-is_none.ensures,
      long,
      wide,
    )
    (none_cleared k.result _ _
    (sym (ap is_some (c.flatten.ensures ∙ ap option_flatten c.ok.ensures.value)) ∙ c.if-is_none.ensures))

pub returns-else-is_none : goal.returns-else-is_none
unfolding step_reply
returns-else-is_none c =
    let k = c.step-end in
    rw (
      ← c.fits-rows.ensures,
      ← c.wants.ensures,
      ← c.wants-2.ensures,
      c.in_ok-wants.was,
      ← k.ensures,
    )
    (found_kept k.result _ _
    (sym (ap is_some (c.flatten.ensures ∙ ap option_flatten c.ok.ensures.value)) ∙ c.if-is_none.ensures))
