-- `turn_down` meets its contract: the division decides.
use mathlib.Core.Path.{◌≡◌, refl, ap, sym, ◌∙◌}
use lib.Ieee.{of_bits}
use Rattle.interval.specs.Result.{result_of}
use Rattle.interval.specs.Scalar.{degenerate, div_of}
use Rattle.interval.specs.Scaling.{four64}
use Rattle.interval.specs.declared.Scalar.{Scalar}
use Rattle.interval.specs.declared.GeopError.{GeopError}
use Rattle.std.specs.Prelude.{Result}
use Rattle.run.proofs.IterateLaws.{turn_next, turn_refused}
use Rattle.run.proofs.MemoryLaws.{works_as}
use Rattle.run.proofs.decide.turn_down.Goals as goal

-- a quarter of the length tried
divided : (tried : Scalar) {four : Scalar} {got r : Result Scalar GeopError} → four ≡ degenerate four64
    → result_of got ≡ div_of tried four → got ≡ r → div_of tried (degenerate four64) ≡ result_of r
divided tried ef ed er = ap (λ (x : Scalar). div_of tried x) (sym ef) ∙ sym ed ∙ ap result_of er

pub returns-in-Ok : goal.returns-in-Ok
unfolding of_bits
returns-in-Ok c w h =
    let a = c.args in
    turn_next a.st w a.why refl
    (divided a.st.trial.tried c.degenerate.ensures c.div.ensures.value c.in-Ok.is) c.sharpen.ensures refl refl
    (c.grow.ensures w h)

pub returns-in-Err : goal.returns-in-Err
unfolding of_bits
returns-in-Err c w h =
    let a = c.args in
    let t = c.with_search.ensures in
    turn_refused a.st w a.why c.reject-x.ensures
    (divided a.st.trial.tried c.degenerate.ensures c.div.ensures.value c.in-Err.is) t
    (rw c.from.ensures at (c.refuse.ensures w (works_as t h.within)))
