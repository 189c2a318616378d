-- `has_point` meets its contract: the checks in their order.
use Prim.Native.Nat.{ℕ}
use lib.Dec.{eqb}
use mathlib.Core.Path.{◌∙◌, sym, ap}
use borrow.Author.Tests.{not-true, not-false}
use Rattle.run.specs.Area.{area_length}
use Rattle.run.specs.Checks.{valid}
use Rattle.run.specs.declared.state.State.{State}
use Rattle.yadzvego.specs.Exports.{has_point}
use borrow.Author.Rules.{rules}
use Rattle.yadzvego.proofs.has_point.Goals as goal

pub returns-then-not-numbers_fit : goal.returns-then-not-numbers_fit
unfolding has_point
returns-then-not-numbers_fit c = rw (sym c.numbers_fit.ensures ∙ c.if-not-numbers_fit.true)

pub returns-then-not-valid : goal.returns-then-not-valid
unfolding has_point
returns-then-not-valid c = rw (
  sym c.numbers_fit.ensures ∙ c.if-not-numbers_fit.false,
  ap valid (sym c.state_at-st.ensures) ∙ sym c.valid.ensures ∙ c.if-not-valid.true,
)

pub returns : goal.returns
unfolding has_point
returns c = rw (
  sym c.numbers_fit.ensures
      ∙ c.if-not-numbers_fit.false,
  ap valid (sym c.state_at-st.ensures) ∙ sym c.valid.ensures
      ∙ c.if-not-valid.false,
)
    (ap (λ (long : ℕ). eqb c.args.area long)
    (c.area_length.ensures ∙ ap (λ (st : State). area_length st.sizes)
    c.state_at-st.ensures))
